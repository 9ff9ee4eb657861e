-- `restored_rows::Restorer::put_columns` meets its contract: the columns passed are put.
use mathlib.Core.Path.{◌≡◌, refl, ap, ◌∙◌, subst⁻¹}
use Prim.Native.Nat.{ℕ, ◌+◌, ◌-◌, ◌*◌, ◌<◌}
use native.Mathlib.Omega.{arith}
use Rattle.rules.specs.Channels.{count}
use Rattle.plane_laws.specs.Rows.{Begun}
use Rattle.plane_laws.proofs.Tables.{begun_at}
use Rattle.restored_rows.specs.Columns.{row_by}
use Rattle.restored_rows.proofs.Puts.{begun_column, begun_two_columns, column_is, column_room, whole_row}
use Rattle.restored_rows.proofs.Restorer.put_columns.Goals as goal

pub loop-i-preserved : goal.loop-i-preserved
loop-i-preserved c =
    let v = c.args in
    let l = c.loop-i in
    let h : 2 * l.i + 1 < v.width = omega (arith, c.loop-i-test.true) in
    let e : 2 * l.i + 2 ≡ 2 * (l.i + 1) = omega arith in
    begun_at (ap (λ (k : ℕ). k * count v.self.settings.channels) e)
    (subst⁻¹ (Begun ((2 * l.i + 2) * count v.self.settings.channels) (row_by v.self.settings v.self.weights v.luma.now v.chroma.now) v.rgb.now) c.put_two_columns.ensures
    (begun_two_columns v.self.settings v.self.weights v.luma.now v.chroma.now v.width c.requires.rows_fit v.rgb.now l.rgb (2 * l.i) refl h l.invariant))

-- an odd last column is put
pub returns-then-width-eq1 : goal.returns-then-width-eq1
returns-then-width-eq1 c =
    let v = c.args in
    let l = c.loop-i in
    let x = v.width - 1 in
    let h : x < v.width = omega (arith, c.if-width-eq1.true) in
    let e : 2 * l.i ≡ x = omega (arith, c.loop-i-test.false, c.if-width-eq1.true) in
    let f : x + 1 ≡ v.width = omega (arith, c.if-width-eq1.true) in
    let p = c.put_column.ensures ∙ column_is v.self.settings v.self.weights v.luma.now v.chroma.now v.endianness c.column_terms-terms.result l.rgb x c.requires.order c.column_terms-terms.ensures.exact in
    whole_row v.self.settings v.self.weights v.luma.now v.chroma.now v.width c.requires.rows_fit v.rgb.now _ refl
    (begun_at (ap (λ (k : ℕ). k * count v.self.settings.channels) f)
    (subst⁻¹ (Begun ((x + 1) * count v.self.settings.channels) (row_by v.self.settings v.self.weights v.luma.now v.chroma.now) v.rgb.now) p
    (begun_column v.self.settings v.self.weights v.luma.now v.chroma.now v.rgb.now l.rgb x (begun_at (ap (λ (k : ℕ). k * count v.self.settings.channels) e) l.invariant)
    (column_room v.self.settings v.self.weights v.luma.now v.chroma.now v.width c.requires.rows_fit x h))))

pub returns-else-width-eq1 : goal.returns-else-width-eq1
returns-else-width-eq1 c =
    let v = c.args in
    let l = c.loop-i in
    let e : 2 * l.i ≡ v.width = omega (arith, c.loop-i-test.false, c.if-width-eq1.false) in
    whole_row v.self.settings v.self.weights v.luma.now v.chroma.now v.width c.requires.rows_fit v.rgb.now _ refl (begun_at (ap (λ (k : ℕ). k * count v.self.settings.channels) e) l.invariant)
