-- The buffer from the window's corner on. Assumes nothing.
use mathlib.Core.Path.{◌≡◌, sym, ap, ◌∙◌}
use mathlib.Core.List.{List, [], ◌++◌, append-nil}
use Prim.Native.Nat.{ℕ, ◌+◌, ◌-◌, ◌*◌, ◌≤◌}
use native.Mathlib.Omega.{arith}
use lib.ListN.{length, take, drop, length-drop}
use lib.Seq.{take_all, drop-length}
use Rattle.rules.specs.declared.Settings.{Settings}
use Rattle.rules.specs.declared.Frame.{Frame}
use Rattle.rules.specs.Channels.{count}
use Rattle.rules.specs.ToRgb.{corner}
use Rattle.plane_laws.specs.Parts.{put}
use Rattle.frames.specs.SourceRows.{WindowRows}
use Rattle.frames.specs.Tests.{Strided}
use Rattle.restored_frame.specs.Restorable.{RestRows}

module _ (s : Settings) (f : Frame) (long : ℕ) (high : 1 ≤ f.height) (strided : Strided s f) (window : WindowRows s.channels f long) where
  pub corner_in : corner s.channels f + f.width * count s.channels ≤ long
  corner_in = omega (arith, window.fits 0 high)

  pub rest_rows : {rest : ℕ} → rest ≡ long - corner s.channels f → RestRows s f rest
  rest_rows e =
      record {
        some = window.some;
        covers = omega (arith, strided.source);
        fits = λ row h. omega (arith, window.fits row h, e);
      }

-- all of a list but its first elements
all_but : (a : ℕ) (xs : List ℕ) → take (length xs - a) (drop a xs) ≡ drop a xs
all_but a xs = take_all (length xs - a) (drop a xs) (omega (arith, length-drop a xs))

pub length_rest : (a : ℕ) (xs : List ℕ) → length (take (length xs - a) (drop a xs)) ≡ length xs - a
length_rest a xs = ap length (all_but a xs) ∙ length-drop a xs

-- what was lent from an element on comes back
pub rest_put : (g : List ℕ → List ℕ) (xs ys : List ℕ) (a : ℕ) → ys ≡ g (take (length xs - a) (drop a xs)) → put xs a ys (length xs - a) ≡ take a xs ++ g (drop a xs)
rest_put g xs ys a e =
    let none : drop (length xs - a) (drop a xs) ≡ [] = ap (λ (n : ℕ). drop n (drop a xs)) (sym (length-drop a xs)) ∙ drop-length (drop a xs) in
    ap (λ (zs : List ℕ). take a xs ++ (ys ++ zs)) none
    ∙ ap (λ (zs : List ℕ). take a xs ++ zs) (append-nil ys ∙ e ∙ ap g (all_but a xs))
