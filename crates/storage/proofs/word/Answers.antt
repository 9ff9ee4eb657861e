-- `storage::word` meets its contract.
use mathlib.Core.Path.{ap, ◌∙◌}
use Rattle.rules.specs.Storage.{exchanged, word}
use Rattle.storage.proofs.word.Goals as goal

pub returns : goal.returns
unfolding word
returns c = c.exchanged.ensures ∙ ap (exchanged c.args.endianness) c.packed.ensures
