-- One row after another goes into a basis.
use mathlib.Core.List.{List, [], ◌∷◌}
use mathlib.Core.Option.{Option, none, some}
use Rattle.linear.specs.Field.{Field}
use Rattle.linear.specs.Basis.{Basis, Insertion, grown, known, clash, insert, Says}
use Rattle.linear.specs.System.{Row, after, absorb}
use Rattle.linear.specs.Theorems.{Absorbed}
use Rattle.linear.proofs.Insert.{insert_says}

module _ {F : Type 0} (K : Field F) where
  then_grown : (B C : Basis F) (r : Row F) (rows : List (Row F)) → Says K B r.left r.right (grown C) → (o : Option (Basis F)) → Absorbed K C rows o → Absorbed K B (r ∷ rows) o
  then_grown B C r rows says none h = λ x s m. h x ((says x).1 (s, m.0)) m.1
  then_grown B C r rows says (some D) h =
      λ x. (
        λ s. let p = (h x).0 s in let q = (says x).0 p.0 in (q.0, (q.1, p.1)),
        λ p. (h x).1 ((says x).1 (p.0, p.1.0), p.1.1),
      )

  then_known : (B : Basis F) (r : Row F) (rows : List (Row F)) → Says K B r.left r.right known → (o : Option (Basis F)) → Absorbed K B rows o → Absorbed K B (r ∷ rows) o
  then_known B r rows says none h = λ x s m. h x s m.1
  then_known B r rows says (some D) h = λ x. (λ s. let p = (h x).0 s in (p.0, (says x p.0, p.1)), λ p. (h x).1 (p.0, p.1.1))

  step : (B : Basis F) (r : Row F) (rows : List (Row F)) (o : Insertion F) → Says K B r.left r.right o
      → (next : Basis F → Option (Basis F)) → ((C : Basis F) → Absorbed K C rows (next C)) → Absorbed K B (r ∷ rows) (after o B next)
  step B r rows (grown C) says next h = then_grown B C r rows says (next C) (h C)
  step B r rows known says next h = then_known B r rows says (next B) (h B)
  step B r rows clash says next h = λ x s m. says x s m.0

  pub absorb_says : (B : Basis F) (rows : List (Row F)) → Absorbed K B rows (absorb K B rows)
  absorb_says B [] = λ x. (λ s. (s, tt), λ p. p.0)
  absorb_says B (r ∷ rows) = step B r rows (insert K B r.left r.right) (insert_says K B r.left r.right) (λ C. absorb K C rows) (λ C. absorb_says C rows)
