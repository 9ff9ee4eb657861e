-- What a number's case, or that it has none, says of the number. Assumes nothing.
use Rattle.std.proofs.Common.{◌≡◌, ℕ, Bool, true, false, cond, leb, Ok, Err, Result, IsErr, refl, sym, ◌∙◌, subst}
use Rattle.numbers.specs.declared.SettingsNumbers.{SettingsNumbers}
use Rattle.numbers.specs.declared.Unnamed.{Unnamed}
use Rattle.numbers.specs.Numbers.{no_case, up_to, named, these, settings_of}

-- there is but one error
pub only_error : {A : Type 0} (r : Result A Unnamed) → IsErr r → r ≡ Err no_case
only_error (Err u) h = refl
only_error (Ok x) h = absurd (let z : ◌≡◌ {A = Bool} false true = h in cc)

abbrev case_by : {A : Type 0} → A → Bool → Result A Unnamed
case_by x b = cond b (Ok x) (Err no_case)

lacking : {A : Type 0} (x : A) (u : Unnamed) (b : Bool) → case_by x b ≡ Err u → b ≡ false
lacking x u true q = absurd (let z = q in cc)
lacking x u false q = refl

having : {A : Type 0} (x y : A) (b : Bool) → case_by x b ≡ Ok y → (b ≡ true) × (x ≡ y)
having x y true q = (refl, cc)
having x y false q = absurd (let z = q in cc)

-- a number that is refused lies past the last case
pub past_last : {A : Type 0} {r : Result A Unnamed} {u : Unnamed} (last n : ℕ) (x : A) → r ≡ up_to last n x → r ≡ Err u → leb n last ≡ false
past_last {A} {r} {u} last n x h e = lacking x u (leb n last) (sym h ∙ e)

-- one that is taken does not, and means its case
pub up_to_last : {A : Type 0} {r : Result A Unnamed} {y : A} (last n : ℕ) (x : A) → r ≡ up_to last n x → r ≡ Ok y → (leb n last ≡ true) × (x ≡ y)
up_to_last {A} {r} {y} last n x h e = having x y (leb n last) (sym h ∙ e)

pub none : (n : SettingsNumbers) → named n ≡ false → settings_of n ≡ Err no_case
unfolding settings_of
none n h = let P : Bool → Type 0 = λ b. cond b (Ok (these n)) (Err no_case) ≡ Err no_case in subst P (sym h) refl
