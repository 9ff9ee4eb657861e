-- What settle's answer is good for. Definitions only.
use Rattle.std.specs.Prelude.{◌≡◌, Ok, Err}
use Rattle.rules.specs.declared.Settings.{Settings}
use Rattle.rules.specs.declared.Weights.{Weights}
use Rattle.rules.specs.Answers.{given, weight_values, Settled}
use Rattle.rules.specs.Settle.{settle}
use Rattle.rule_laws.specs.Usable.{Usable}

-- weights that are handed out are usable
abbrev pub Promised : Settings → Settled → Type 0
Promised s (Ok w) = Usable s w
Promised s (Err r) = Unit

-- weights that settle handed out for these settings
pub record HandedOut (s : Settings) (w : Weights) : Type 0 where
  pub by_settle : given (weight_values w) ≡ settle s
  pub usable : Usable s w
