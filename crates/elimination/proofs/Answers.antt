-- What a system that stands in a table answers.
use Rattle.std.proofs.Common.{◌≡◌, ℕ, suc, ◌+◌, ◌*◌, ◌^◌, ◌<◌, ◌≤◌, Bool, true, false, ◌≢◌, ◌↔◌, List, [], ◌∷◌, map, reverse, length, get_or, replicate, sym, refl, ap, ◌∙◌, subst, arith}
use mathlib.Core.Option.{some}
use lib.ListN.{length-replicate}
use Rattle.linear.specs.Field.{Field}
use Rattle.linear.specs.Basis.{Basis, Insertion, grown, known, clash, ended, slack, least, dot, insert}
use Rattle.linear.specs.System.{Row, rev, rev_row, Wide, solutions, solve}
use Rattle.linear.specs.Theorems.{Null, Tells, Told}
use Rattle.linear.proofs.System.{solve_tells, length_rev, rev_rev, dot_rev}
use Rattle.linear.proofs.Free.{insert_tells}
use Rattle.elimination.specs.Table.{basis_of, Reduced, wrap, rows_of}
use Rattle.elimination.specs.Holds.{Zeros, Found, Stands}
use Rattle.elimination.specs.Calls.{First, Independent}
use Rattle.elimination.proofs.Lists.{reverse_rev}
use Rattle.elimination.proofs.Stack.{wrap_known, wrap_clash}
use Rattle.elimination.proofs.Steps.{grows, end_is}

module _ {F : Type 0} (K : Field F) where
  open K use {zer, rest, is}

  module _ (n : ℕ) (rows : List (Row F)) (written t r : List F) where
    all : List (List F)
    all = solutions K (replicate n true) rows

    told : (c : Bool) → Stands K n rows written c t r → Told K (replicate n true) rows (solve K (replicate n true) rows)
    told c s = solve_tells K (replicate n true) rows (subst (λ m. Wide m rows) (sym (length-replicate n true)) s.wide)

    pub none_left : (c : Bool) → c ≡ true → Stands K n rows written c t r → solutions K (replicate n true) rows ≡ []
    none_left c e s = subst (Told K (replicate n true) rows) (subst (λ b. Found K b (basis_of K n t) (solve K (replicate n true) rows)) e s.found) (told c s)

    some_told : (c : Bool) → c ≡ false → Stands K n rows written c t r → Told K (replicate n true) rows (some (basis_of K n t))
    some_told c e s = subst (Told K (replicate n true) rows) (subst (λ b. Found K b (basis_of K n t) (solve K (replicate n true) rows)) e s.found) (told c s)

    pub first_is : (c : Bool) (y x : List F) → c ≡ false → Stands K n rows written c t r → y ≡ least K (basis_of K n t) → x ≡ reverse y → First true (solutions K (replicate n true) rows) x
    first_is c y x e s ye xe =
        let T = some_told c e s in
        (T.0.0, T.0.1 ∙ ap (λ z. z ∷ T.0.0) (sym (xe ∙ ap reverse ye ∙ reverse_rev (least K (basis_of K n t)))))

    pub power_is : (c : Bool) (k : ℕ) → c ≡ false → Stands K n rows written c t r → k ≡ slack (basis_of K n t) → length (solutions K (replicate n true) rows) ≡ length (zer ∷ rest) ^ k
    power_is c k e s ke = (some_told c e s).1 ∙ ap (λ i. length (zer ∷ rest) ^ i) (sym ke)

  -- a row that is zero at a vector is so with both turned round
  zeros_rev : (rows : List (Row F)) (x : List F) → Wide (length x) rows → Zeros K (map rev_row rows) (rev x) ↔ Zeros K rows x
  zeros_rev [] x w = (λ h. h, λ h. h)
  zeros_rev (r ∷ rows) x w =
      let e : dot K (rev r.left) (rev x) ≡ dot K r.left x = dot_rev K r.left x w.0 in
      let ih : Zeros K (map rev_row rows) (rev x) ↔ Zeros K rows x = zeros_rev rows x w.1 in
      (λ h. (sym e ∙ h.0, ih.0 h.1), λ h. (e ∙ h.0, ih.1 h.1))

  module _ (n : ℕ) (rows : List (Row F)) (written : List F) (c : Bool) (t r : List F) (s : Stands K n rows written c t r) where
    abbrev B : Basis F
    B = basis_of K n t

    depends : ((x : List F) → Null K B x → dot K (rev written) x ≡ zer) → Independent K n rows written false
    depends h x l z =
        let k : length (rev x) ≡ n = length_rev K x ∙ l in
        let w : Wide (length x) rows = subst (λ m. Wide m rows) (sym l) s.wide in
        sym (dot_rev K written x (s.long ∙ sym l)) ∙ h (rev x) ((s.nulls (rev x)).1 (k, (zeros_rev rows x w).1 z))

    stands_out : (y : List F) → Null K B y → dot K (rev written) y ≢ zer → Independent K n rows written true
    stands_out y h d =
        let u = (s.nulls y).0 h in
        let l : length (rev y) ≡ n = length_rev K y ∙ u.0 in
        let w : Wide (length (rev y)) rows = subst (λ m. Wide m rows) (sym l) s.wide in (
          rev y,
          l,
          (zeros_rev rows (rev y) w).0 (subst (Zeros K (map rev_row rows)) (sym (rev_rev K y)) u.1),
          λ e. d (ap (dot K (rev written)) (sym (rev_rev K y)) ∙ dot_rev K written (rev y) (s.long ∙ sym l) ∙ e),
        )

    by_outcome : (o : Insertion F) → Tells K B (rev written) o → (C : Basis F) → o ≡ grown C → Independent K n rows written true
    by_outcome (grown D) q C e = stands_out q.0 q.1 q.2
    by_outcome known q C e = absurd (let z : ◌≡◌ {A = ℕ} 0 1 = cc in omega arith)
    by_outcome clash q C e = absurd (let z : ◌≡◌ {A = ℕ} 0 1 = cc in omega arith)

    at_end : (b : Bool) → wrap K (rows_of (suc n) n t) n (ended b) ≡ insert K B (rev written) zer → Independent K n rows written false
    at_end true e = depends (subst (Tells K B (rev written)) (sym e ∙ wrap_known K (rows_of (suc n) n t) n) (insert_tells K B (rev written) zer))
    at_end false e = depends (subst (Tells K B (rev written)) (sym e ∙ wrap_clash K (rows_of (suc n) n t) n) (insert_tells K B (rev written) zer))

    -- the row as it is read: its right side is zero
    pub independent : (r₀ r' : List F) (j : ℕ) → n * (n + 1) ≤ length t → r₀ ≡ zer ∷ rev written → length r' ≡ n + 1 → Reduced K n t r₀ j r' → (j < n → Independent K n rows written true) × (n ≤ j → Independent K n rows written false)
    independent r₀ r' j l re k d = (grew, ended')
      where
        d' : Reduced K n t (zer ∷ rev written) j r'
        d' = subst (λ q. Reduced K n t q j r') re d

        grew : j < n → Independent K n rows written true
        grew h = by_outcome (insert K B (rev written) zer) (insert_tells K B (rev written) zer) _ (sym (grows K n t j l h (zer ∷ rev written) r' k d'))

        ended' : n ≤ j → Independent K n rows written false
        ended' h =
            let e : j ≡ n = omega (arith, d'.within) in
            let o : 0 < length r' = omega arith in
            let m : n ≤ n = omega arith in
            at_end (is (get_or r' 0 zer) zer) (end_is K n t (zer ∷ rev written) r' n m k (subst (λ (i : ℕ). Reduced K n t (zer ∷ rev written) i r') e d') (get_or r' 0 zer) (same r' o))
          where
            same : (q : List F) → 0 < length q → get_or q 0 zer ≡ get_or q 0 (get_or q 0 zer)
            same [] h = absurd (omega arith)
            same (x ∷ q) h = refl
