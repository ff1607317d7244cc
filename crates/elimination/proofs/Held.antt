-- What a call leaves, from what its parts were lent and gave back. The unknowns u that the elimination keeps are the system's n.
use Rattle.std.proofs.Common.{IfSome, is_some, unwrap_or, Option, Some, None, ◌≡◌, ℕ, suc, ◌+◌, ◌-◌, ◌*◌, ◌<◌, ◌≤◌, Bool, true, false, List, [], ◌∷◌, ◌++◌, reverse, length, get_or, take, set, replicate, sym, refl, ap, ◌∙◌, subst, ap₂, mul-le-mul_right, mul-le-mul_left, arith, length-set}
use lib.ListN.{length-replicate}
use Rattle.std.proofs.lemmas.List.{take_at, length-take-le}
use Rattle.linear.specs.Field.{Field}
use Rattle.linear.specs.Basis.{empty, least}
use Rattle.linear.specs.System.{Row, rev, solutions}
use Rattle.linear.proofs.System.{length_rev}
use Rattle.elimination.specs.Table.{basis_of, Reduced}
use Rattle.elimination.specs.Inserted.{Inserted}
use Rattle.elimination.specs.Holds.{Stands}
use Rattle.elimination.specs.Calls.{check, more, First, Independent}
use Rattle.elimination.specs.declared.echelon.Added.{Added}
use Rattle.elimination.specs.declared.echelon.Echelon.{Echelon}
use Rattle.elimination.proofs.Lists.{rev_replicate, put_rev}
use Rattle.elimination.proofs.Begins.{begins}
use Rattle.elimination.proofs.Adds.{flagged, adds}
use Rattle.elimination.proofs.Answers.{first_is, independent}

pub square : (u : ℕ) → u ≤ 256 → u * (u + 1) ≤ 65792
square u h =
    let a : u + 1 ≤ 257 = omega arith in
    omega (arith, mul-le-mul_right (u + 1) h, mul-le-mul_left 256 a)

-- the rows of a table lie within its memory
pub room_of : {F : Type 0} (e : Echelon F) → e.width * (e.width + 1) ≤ length e.cells.items
room_of e = omega (arith, square e.width e.few, e.room, e.cells.ok.0)

module _ {F : Type 0} (K : Field F) where
  open K use {zer, add}

  -- a row whose front was cleared
  front_clear : (k m : ℕ) (r S Q L : List F) → r ≡ S ++ Q → S ≡ replicate (length L) zer → length L ≡ m → k ≡ m → take k r ≡ replicate k zer
  front_clear k m r S Q L re se le e =
      let q : length L ≡ k = omega arith in
      ap (take k) re ∙ take_at S Q k (ap length se ∙ length-replicate (length L) zer ∙ q) ∙ se ∙ ap (λ i. replicate i zer) q

  pub begun : (u n : ℕ) (t' S Q B r' : List F) → u ≡ n → u ≤ 256 → length S ≡ 257 → basis_of K u t' ≡ empty u
      → Q ≡ replicate (length (take ((u + 1) - 0) S)) zer → r' ≡ Q ++ B → Stands K n [] (replicate n zer) false t' r'
  begun u n t' S Q B r' e few sl be qe re =
      let b : (u + 1) - 0 ≡ suc n = omega arith in
      let c : suc n ≤ length S = omega arith in
      let lb : length (take ((u + 1) - 0) S) ≡ suc n = ap (λ k. length (take k S)) b ∙ length-take-le (suc n) S c in
      begins K n t' r' (subst (λ (m : ℕ). basis_of K m t' ≡ empty m) e be) (front_clear (suc n) (suc n) r' Q B (take ((u + 1) - 0) S) re qe lb refl)

  -- the row that is read
  read : (u n : ℕ) (written r D : List F) → u ≡ n → D ≡ r → take (suc n) r ≡ zer ∷ rev written → take ((u + 1) - 0) D ≡ zer ∷ rev written
  read u n written r D e d q = let k : (u + 1) - 0 ≡ suc n = omega arith in ap₂ (λ i l. take i l) k d ∙ q

  module _ (u n : ℕ) (rows : List (Row F)) (written : List F) (c : Bool) (t r : List F) (e : u ≡ n) (s : Stands K n rows written c t r) where
    long_row : length (zer ∷ rev written) ≡ suc n
    long_row = ap suc (length_rev K written ∙ s.long)

    pub put_held : (p q : ℕ) (x v coefficient : F) → q ≡ p → q < u → u ≤ 256 → length r ≡ 257 → x ≡ get_or r (u - q) x → v ≡ add x coefficient
        → Stands K n rows (more K written p coefficient) c t (set r (u - q) v)
    put_held p q₀ x v coefficient qe h few rl xe ve =
        let h' : p < n = omega arith in
        let m : u - q₀ ≡ n - p = omega arith in
        let l : suc n ≤ length r = omega arith in
        let q = put_rev n p (u - q₀) r written zer zer x v s.long h' m s.row xe l in
        record {
          wide = s.wide;
          long = length-set written p (add (get_or written p zer) coefficient) ∙ s.long;
          row = q.0 ∙ ap (λ y. zer ∷ rev (set written p y)) (ve ∙ ap (λ y. add y coefficient) q.1);
          found = s.found;
          nulls = s.nulls;
        }

    pub added : (right : F) (o : Added) (b : Bool) (D t' r' R S Q : List F) → flagged o c ≡ b → D ≡ r → Inserted K u t (set (take ((u + 1) - 0) D) 0 right) o t'
        → length R ≡ length (set (take ((u + 1) - 0) D) 0 right) → S ≡ replicate (length R) zer → r' ≡ S ++ Q
        → Stands K n (rows ++ check written right ∷ []) (replicate n zer) b t' r'
    added right o b D t' r' R S Q fe de i le se re =
        let q : set (take ((u + 1) - 0) D) 0 right ≡ right ∷ rev written = ap (λ l. set l 0 right) (read u n written r D e de s.row) in
        let i' : Inserted K n t (set (take ((u + 1) - 0) D) 0 right) o t' = subst (λ (m : ℕ). Inserted K m t (set (take ((u + 1) - 0) D) 0 right) o t') e i in
        subst (λ (f : Bool). Stands K n (rows ++ check written right ∷ []) (replicate n zer) f t' r') fe
        (adds K n rows written c t r right o (set (take ((u + 1) - 0) D) 0 right) t' r' s q i' (front_clear (suc n) (suc n) r' S Q R re se (le ∙ ap length q ∙ long_row) refl))

    -- the table as it was, and a cleared row
    cleared : (r' S Q R : List F) → length R ≡ suc n → S ≡ replicate (length R) zer → r' ≡ S ++ Q → Stands K n rows (replicate n zer) c t r'
    cleared r' S Q R le se re =
        record {
          wide = s.wide;
          long = length-replicate n zer;
          row = front_clear (suc n) (suc n) r' S Q R re se le refl ∙ ap (λ l. zer ∷ l) (sym (rev_replicate n zer));
          found = s.found;
          nulls = s.nulls;
        }

    pub tried : (o : Option ℕ) (D r' R S Q : List F) → u * (u + 1) ≤ length t → D ≡ r → IfSome o (λ j. j < u) → Reduced K u t (take ((u + 1) - 0) D) (unwrap_or o u) R
        → length R ≡ length (take ((u + 1) - 0) D) → S ≡ replicate (length R) zer → r' ≡ S ++ Q
        → Stands K n rows (replicate n zer) c t r' × Independent K n rows written (is_some o)
    tried o D r' R S Q room de below d le se re = (cleared r' S Q R long se re, go o below d)
      where
        q : take ((u + 1) - 0) D ≡ zer ∷ rev written
        q = read u n written r D e de s.row

        long : length R ≡ suc n
        long = le ∙ ap length q ∙ long_row

        both : (j : ℕ) → Reduced K u t (take ((u + 1) - 0) D) j R → (j < n → Independent K n rows written true) × (n ≤ j → Independent K n rows written false)
        both j d =
            let k : length R ≡ n + 1 = omega (arith, long) in
            let l : n * (n + 1) ≤ length t = subst (λ (m : ℕ). m * (m + 1) ≤ length t) e room in
            independent K n rows written c t r s (take ((u + 1) - 0) D) R j l q k (subst (λ (m : ℕ). Reduced K m t (take ((u + 1) - 0) D) j R) e d)

        go : (o : Option ℕ) → IfSome o (λ j. j < u) → Reduced K u t (take ((u + 1) - 0) D) (unwrap_or o u) R → Independent K n rows written (is_some o)
        go (Some j) h d = (both j d).0 (omega (arith, h))
        go None h d = (both u d).1 (omega arith)

    pub solved : (y x Q z : List F) → c ≡ false → y ≡ least K (basis_of K u t) → x ≡ reverse y → length x ≡ u → z ≡ x ++ Q → First true (solutions K (replicate n true) rows) (take u z)
    solved y x Q z ce ye xe l ze =
        subst (First true (solutions K (replicate n true) rows)) (sym (ap (take u) ze ∙ take_at x Q u l))
        (first_is K n rows written t r c y x ce s (ye ∙ ap (λ m. least K (basis_of K m t)) e) xe)
