-- A check more.
use Rattle.std.proofs.Common.{◌||◌, ◌≡◌, ℕ, suc, Bool, true, false, ◌↔◌, List, [], ◌∷◌, ◌++◌, map, length, get_or, take, drop, replicate, sym, refl, ap, ◌∙◌, subst, arith}
use mathlib.Core.Option.{Option, none, some}
use denote.Enum.Bare.{sameb}
use lib.ListN.{length-replicate}
use Rattle.linear.specs.Field.{Field}
use Rattle.linear.specs.Basis.{Basis, Insertion, grown, known, clash, dot, insert}
use Rattle.linear.specs.System.{Row, rev, rev_row, Wide, after, absorb, start, solve}
use Rattle.linear.specs.Theorems.{Null}
use Rattle.elimination.specs.Table.{basis_of}
use Rattle.elimination.specs.Inserted.{outcome, Inserted}
use Rattle.elimination.specs.Holds.{Zeros, Found, Stands}
use Rattle.elimination.specs.Calls.{check}
use Rattle.elimination.specs.declared.echelon.Added.{Added}
use Rattle.elimination.specs.declared.echelon.Added.TheVariants.{Grown, Known, Clash}
use Rattle.elimination.specs.contracts.echelon.Added.{the_type}
use Rattle.elimination.proofs.Lists.{rev_replicate}
use Rattle.elimination.proofs.Nulls.{null_grown, null_known, null_clash}

wide_snoc : {F : Type 0} (n : ℕ) (rows : List (Row F)) (r : Row F) → Wide n rows → length r.left ≡ n → Wide n (rows ++ r ∷ [])
wide_snoc n [] r w e = (e, tt)
wide_snoc n (q ∷ rows) r w e = (w.0, wide_snoc n rows r w.1 e)

map_snoc : {F : Type 0} (rows : List (Row F)) (r : Row F) → map rev_row (rows ++ r ∷ []) ≡ map rev_row rows ++ rev_row r ∷ []
map_snoc [] r = refl
map_snoc (q ∷ rows) r = ap (λ t. rev_row q ∷ t) (map_snoc rows r)

-- the flag after a row
abbrev pub flagged : Added → Bool → Bool
flagged Grown b = b
flagged Known b = b
flagged Clash b = true

pub flagged_or : (o : Added) (b : Bool) → flagged o b ≡ (b || sameb the_type o Clash)
flagged_or Grown true = refl
flagged_or Grown false = refl
flagged_or Known true = refl
flagged_or Known false = refl
flagged_or Clash true = refl
flagged_or Clash false = refl

module _ {F : Type 0} (K : Field F) where
  open K use {zer}

  zeros_snoc : (rows : List (Row F)) (r : Row F) (x : List F) → Zeros K (rows ++ r ∷ []) x ↔ (Zeros K rows x × (dot K r.left x ≡ zer))
  zeros_snoc [] r x = (λ h. (tt, h.0), λ h. (h.1, tt))
  zeros_snoc (q ∷ rows) r x = (
    λ h. let p = (zeros_snoc rows r x).0 h.1 in ((h.0, p.0), p.1),
    λ h. (h.0.0, (zeros_snoc rows r x).1 (h.0.1, h.1)),
  )

  abbrev onto : Option (Basis F) → Row F → Option (Basis F)
  onto none r = none
  onto (some C) r = after (insert K C r.left r.right) C (λ D. some D)

  after_onto : (o : Insertion F) (B : Basis F) (f g : Basis F → Option (Basis F)) (r : Row F) → ((C : Basis F) → f C ≡ onto (g C) r) → after o B f ≡ onto (after o B g) r
  after_onto (grown C) B f g r h = h C
  after_onto known B f g r h = h B
  after_onto clash B f g r h = refl

  absorb_snoc : (B : Basis F) (rows : List (Row F)) (r : Row F) → absorb K B (rows ++ r ∷ []) ≡ onto (absorb K B rows) r
  absorb_snoc B [] r = refl
  absorb_snoc B (q ∷ rows) r = after_onto (insert K B q.left q.right) B (λ C. absorb K C (rows ++ r ∷ [])) (λ C. absorb K C rows) r (λ C. absorb_snoc C rows r)

  -- the basis after a row
  found_more : (o : Added) (c : Bool) (B B' : Basis F) (r : Row F) (s : Option (Basis F)) → outcome o B' ≡ insert K B r.left r.right → ((o ≡ Grown → ⊥) → B' ≡ B) → Found K c B s → Found K (flagged o c) B' (onto s r)
  found_more Grown true B B' r s e k f = ap (λ t. onto t r) f
  found_more Known true B B' r s e k f = ap (λ t. onto t r) f
  found_more Clash true B B' r s e k f = ap (λ t. onto t r) f
  found_more Grown false B B' r s e k f = ap (λ t. onto t r) f ∙ ap (λ o. after o B (λ D. some D)) (sym e)
  found_more Known false B B' r s e k f = ap (λ t. onto t r) f ∙ ap (λ o. after o B (λ D. some D)) (sym e) ∙ ap some (sym (k (λ q. let z : ◌≡◌ {A = ℕ} 0 1 = cc in omega arith)))
  found_more Clash false B B' r s e k f = ap (λ t. onto t r) f ∙ ap (λ o. after o B (λ D. some D)) (sym e)

  nulls_more : (o : Added) (B B' : Basis F) (a : List F) (b : F) → outcome o B' ≡ insert K B a b → ((o ≡ Grown → ⊥) → B' ≡ B) → (x : List F) → Null K B' x ↔ (Null K B x × (dot K a x ≡ zer))
  nulls_more Grown B B' a b e k x = null_grown K B B' a b e x
  nulls_more Known B B' a b e k x =
      let q : B' ≡ B = k (λ g. let z : ◌≡◌ {A = ℕ} 0 1 = cc in omega arith) in
      (λ h. let h' = subst (λ (C : Basis F). Null K C x) q h in (h', null_known K B a b e x h'), λ h. subst (λ (C : Basis F). Null K C x) (sym q) h.0)
  nulls_more Clash B B' a b e k x =
      let q : B' ≡ B = k (λ g. let z : ◌≡◌ {A = ℕ} 0 1 = cc in omega arith) in
      (λ h. let h' = subst (λ (C : Basis F). Null K C x) q h in (h', null_clash K B a b e x h'), λ h. subst (λ (C : Basis F). Null K C x) (sym q) h.0)

  pub adds : (n : ℕ) (rows : List (Row F)) (written : List F) (c : Bool) (t r : List F) (right : F) (o : Added) (r₀ t' r' : List F)
      → Stands K n rows written c t r → r₀ ≡ right ∷ rev written → Inserted K n t r₀ o t' → take (suc n) r' ≡ replicate (suc n) zer
      → Stands K n (rows ++ check written right ∷ []) (replicate n zer) (flagged o c) t' r'
  adds n rows written c t r right o r₀ t' r' s re i cleared =
      let q : Row F = check written right in
      let B : Basis F = basis_of K n t in
      let B' : Basis F = basis_of K n t' in
      let e : outcome o (basis_of K n t') ≡ insert K (basis_of K n t) (rev written) right = i.outcome_is ∙ ap (λ l. insert K (basis_of K n t) (drop 1 l) (get_or l 0 zer)) re in
      let k : (o ≡ Grown → ⊥) → basis_of K n t' ≡ basis_of K n t = λ no. ap (basis_of K n) (i.kept no) in
      record {
        wide = wide_snoc n rows q s.wide s.long;
        long = length-replicate n zer;
        row = cleared ∙ ap (λ l. zer ∷ l) (sym (rev_replicate n zer));
        found =
            subst (Found K (flagged o c) B') (sym (ap (absorb K (start K (rev (replicate n true)))) (map_snoc rows q) ∙ absorb_snoc (start K (rev (replicate n true))) (map rev_row rows) (rev_row q)))
            (found_more o c B B' (rev_row q) (solve K (replicate n true) rows) e k s.found);
        nulls =
            λ x.
            let more = nulls_more o B B' (rev written) right e k x in
            let zs = zeros_snoc (map rev_row rows) (rev_row q) x in (
              λ h. let p = more.0 h in let u = (s.nulls x).0 p.0 in (u.0, subst (λ (l : List (Row F)). Zeros K l x) (sym (map_snoc rows q)) (zs.1 (u.1, p.1))),
              λ h. let p = zs.0 (subst (λ (l : List (Row F)). Zeros K l x) (map_snoc rows q) h.1) in more.1 ((s.nulls x).1 (h.0, p.0), p.1),
            );
      }
