-- Writing where the unknowns stand, and taking it out again.
use Rattle.std.proofs.Common.{◌≡◌, ℕ, ◌+◌, ◌<◌, ◌≤◌, Option, Some, None, is_some, unwrap_or, Bool, true, false, true≢false, ◌||◌, eqb, ◌⊎◌, inl, inr, List, [], ◌∷◌, length, get_or, set, take, sym, refl, ap, ◌∙◌, subst, arith, eqb-true, length-set, get_or-set_same, get_or-set_other}
use borrow.Author.Tests.{eqb-false}
use Rattle.std.specs.Option.{ForSome, ForNone}
use Rattle.std.proofs.lemmas.Bool.{false_from_ne_true}
use Rattle.std.proofs.lemmas.List.{get_or-take}
use lib.ListN.{length-take}
use Rattle.sets.specs.Sets.{among}
use Rattle.sets.proofs.Lists.{in_get_or}
use Rattle.sets.proofs.Numbers.{in_among}
use Rattle.upkeep.specs.Changed.{changed}
use Rattle.upkeep.proofs.Changed.{length_changed}
use Rattle.systems.specs.Places.{Placed}
use Rattle.systems.proofs.Places.{among_taken}

-- nothing stands anywhere
abbrev pub Nowhere : List (Option ℕ) → Type 0
Nowhere places = (q : ℕ) → q < length places → get_or places q None ≡ None

pub placed_none : (places : List (Option ℕ)) → Nowhere places → Placed places []
placed_none places n q low = (λ _. refl, λ t e. absurd (none_some t (sym (n q low) ∙ e)))
  where
    none_some : (t : ℕ) → None ≡ Some t → ⊥
    none_some t e = true≢false (sym (ap is_some e))

-- what stands somewhere among the first i stands there among one more
onward : (l : List ℕ) (i : ℕ) → i < length l → (q t : ℕ) → (t < length (take i l)) × (get_or (take i l) t 0 ≡ q) → (t < length (take (i + 1) l)) × (get_or (take (i + 1) l) t 0 ≡ q)
onward l i h q t (low, at) =
    let t' : t < i = omega (arith, low, length-take i l) in
    (omega (arith, t', length-take (i + 1) l), get_or-take (i + 1) l t 0 (omega (arith, t')) ∙ sym (get_or-take i l t 0 t') ∙ at)

absent : (l : List ℕ) (i : ℕ) → i < length l → (q : ℕ) → eqb q (get_or l i 0) ≡ false → among q (take i l) ≡ false → among q (take (i + 1) l) ≡ false
absent l i h q e none = among_taken l i h q ∙ ap (λ b. b || eqb q (get_or l i 0)) none ∙ e

-- one number more of the list
pub placed_more : (places : List (Option ℕ)) (l : List ℕ) (i : ℕ) → i < length l → Placed places (take i l) → Placed (set places (get_or l i 0) (Some i)) (take (i + 1) l)
placed_more places l i h p q low = go (eqb q (get_or l i 0)) refl
  where
    low' : q < length places
    low' = omega (arith, low, length-set places (get_or l i 0) (Some i))

    P : Option ℕ → Type 0
    P o = ForNone o (among q (take (i + 1) l) ≡ false) × ForSome o (λ t. (t < length (take (i + 1) l)) × (get_or (take (i + 1) l) t 0 ≡ q))

    go : (b : Bool) → eqb q (get_or l i 0) ≡ b → P (get_or (set places (get_or l i 0) (Some i)) q None)
    go true e =
        let same : q ≡ get_or l i 0 = eqb-true q (get_or l i 0) e in
        let there : get_or (set places (get_or l i 0) (Some i)) q None ≡ Some i =
        ap (λ k. get_or (set places (get_or l i 0) (Some i)) k None) same ∙ get_or-set_same places (get_or l i 0) (Some i) None (omega (arith, low', same)) in
        subst P (sym there) (
          λ n. absurd (true≢false (ap is_some n)),
          λ t s.
              let it : i ≡ t = ap (λ o. unwrap_or o 0) s in
              (omega (arith, h, length-take (i + 1) l, it), get_or-take (i + 1) l t 0 (omega (arith, it)) ∙ ap (λ k. get_or l k 0) (sym it) ∙ sym same),
        )
    go false e =
        subst P (sym (get_or-set_other places (get_or l i 0) q (Some i) None (eqb-false q (get_or l i 0) e)))
        (λ n. absent l i h q e ((p q low').0 n), λ t s. onward l i h q t ((p q low').1 t s))

-- a number past the end stands nowhere
pub placed_past : (places : List (Option ℕ)) (l : List ℕ) (i : ℕ) → i < length l → length places ≤ get_or l i 0 → Placed places (take i l) → Placed places (take (i + 1) l)
placed_past places l i h past p q low =
    let other : eqb q (get_or l i 0) ≡ false = false_from_ne_true (eqb q (get_or l i 0)) (λ e. absurd (omega (arith, low, past, eqb-true q (get_or l i 0) e))) in
    (λ n. absent l i h q other ((p q low).0 n), λ t s. onward l i h q t ((p q low).1 t s))

taken_at : (l : List ℕ) (places : List (Option ℕ)) (q : ℕ) → q < length places → (get_or places q None ≡ None) ⊎ (among q l ≡ true) → get_or (changed None (λ _. None) l places) q None ≡ None
taken_at [] places q low (inl e) = e
taken_at [] places q low (inr e) = absurd (true≢false (sym e))
taken_at (j ∷ l) places q low w = taken_at l (set places j None) q (omega (arith, low, length-set places j None)) (go (eqb q j) refl w)
  where
    go : (b : Bool) → eqb q j ≡ b → (get_or places q None ≡ None) ⊎ ((b || among q l) ≡ true) → (get_or (set places j None) q None ≡ None) ⊎ (among q l ≡ true)
    go true e w = inl (ap (λ k. get_or (set places j None) k None) (eqb-true q j e) ∙ get_or-set_same places j None None (omega (arith, low, eqb-true q j e)))
    go false e (inl n) = inl (get_or-set_other places j q None None (eqb-false q j e) ∙ n)
    go false e (inr m) = inr m

-- all are taken out
pub none_left : (places : List (Option ℕ)) (l : List ℕ) → Placed places l → Nowhere (changed None (λ _. None) l places)
none_left places l p q low = taken_at l places q low' (go (get_or places q None) refl)
  where
    low' : q < length places
    low' = omega (arith, low, length_changed None (λ _. None) l places)

    go : (o : Option ℕ) → get_or places q None ≡ o → (get_or places q None ≡ None) ⊎ (among q l ≡ true)
    go None e = inl e
    go (Some t) e =
        let at = (p q low').1 t e in
        inr (ap (λ k. among k l) (sym at.1) ∙ in_among (get_or l t 0) l (in_get_or l t 0 at.0))
