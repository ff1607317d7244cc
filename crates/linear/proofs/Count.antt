-- Exactly n things: the number is unique, it goes along a bijection, and choices multiply.
use mathlib.Core.Path.{◌≡◌, refl, sym, ap, ◌∙◌, subst}
use mathlib.Core.Logic.{inl, inr, ◌↔◌}
use mathlib.Core.List.{List, [], ◌∷◌, map}
use Prim.Native.Nat.{ℕ, ◌*◌, ◌≤◌}
use native.Mathlib.Omega.{arith}
use lib.ListN.{length, length-map}
use Rattle.sets.specs.Lists.{In, flat_in, Exactly}
use Rattle.sets.proofs.Lists.{at_most, in_cast, in_map, of_map, distinct_map, in_flat, of_flat, distinct_flat, length_flat}

module _ {X : Type 0} where
  -- the number is one
  pub exactly_unique : {P : X → Type 0} (n m : ℕ) → Exactly n P → Exactly m P → n ≡ m
  exactly_unique n m E G =
      let a : length E.all ≤ length G.all = at_most E.all G.all E.lists.distinct (λ x k. G.lists.complete x (E.lists.sound x k)) in
      let b : length G.all ≤ length E.all = at_most G.all E.all G.lists.distinct (λ x k. E.lists.complete x (G.lists.sound x k)) in
      omega (arith, a, b, E.count, G.count)

  -- the same property in other words
  pub exactly_iff : {P Q : X → Type 0} (n : ℕ) → ((x : X) → P x ↔ Q x) → Exactly n P → Exactly n Q
  exactly_iff n iff E =
      record {
        all = E.all;
        lists = record { distinct = E.lists.distinct; sound = λ x m. (iff x).0 (E.lists.sound x m); complete = λ x q. E.lists.complete x ((iff x).1 q) };
        count = E.count;
      }

  -- none, and one
  pub exactly_none : {P : X → Type 0} → ((x : X) → ¬ P x) → Exactly 0 P
  exactly_none n = record { all = []; lists = record { distinct = tt; sound = λ x m. absurd m; complete = λ x p. n x p }; count = refl }

  pub exactly_one : {P : X → Type 0} (x : X) → P x → ((y : X) → P y → y ≡ x) → Exactly 1 P
  exactly_one {P} x p only =
      record {
        all = x ∷ [];
        lists = record { distinct = (λ m. m, tt); sound = λ y m. elim m [ inl e ↦ subst P (sym e) p | inr n ↦ absurd n ]; complete = λ y q. inl (only y q) };
        count = refl;
      }

module _ {X Y : Type 0} where
  -- along a bijection between what has the one property and what has the other
  pub exactly_move : {P : X → Type 0} {Q : Y → Type 0} (n : ℕ) (f : X → Y) (g : Y → X) → ((x : X) → P x → Q (f x)) → ((y : Y) → Q y → P (g y))
      → ((x : X) → P x → g (f x) ≡ x) → ((y : Y) → Q y → y ≡ f (g y)) → Exactly n P → Exactly n Q
  exactly_move {P} {Q} n f g to from gf fg E =
      record {
        all = map f E.all;
        lists =
            record {
              distinct = distinct_map f E.all (λ x y m k e. sym (gf x (E.lists.sound x m)) ∙ ap g e ∙ gf y (E.lists.sound y k)) E.lists.distinct;
              sound = λ y m. let r = of_map f y E.all m in subst Q (sym r.2) (to r.0 (E.lists.sound r.0 r.1));
              complete = λ y q. in_cast (map f E.all) (fg y q) (in_map f (g y) E.all (E.lists.complete (g y) (from y q)));
            };
        count = length-map E.all f ∙ E.count;
      }

  -- a choice of x in exactly a ways, and for each of y in exactly b ways: exactly a * b pairs
  pub exactly_split : {P : X → Type 0} {Q : X → Y → Type 0} (a b : ℕ) → Exactly a P → ((x : X) → P x → Exactly b (Q x)) → Exactly {X = X × Y} (a * b) (λ p. P p.0 × Q p.0 p.1)
  exactly_split {P} {Q} a b E G =
      record {
        all = flat_in xs row;
        lists =
            record {
              distinct = distinct_flat xs row E.lists.distinct (λ x m. distinct_map (pair x) (ys x m) (λ y z _ _ e. ap (λ (p : X × Y). p.1) e) (G x (E.lists.sound x m)).lists.distinct) apart;
              sound = λ p h. good p (of_flat p xs row h);
              complete = λ p q. in_flat p p.0 xs row (E.lists.complete p.0 q.0) (λ m. in_map (pair p.0) p.1 (ys p.0 m) ((G p.0 (E.lists.sound p.0 m)).lists.complete p.1 q.1));
            };
        count = length_flat b xs row (λ x m. length-map (ys x m) (pair x) ∙ (G x (E.lists.sound x m)).count) ∙ ap (λ (n : ℕ). n * b) E.count;
      }
    where
      xs : List X
      xs = E.all

      pair : X → Y → X × Y
      pair x y = (x, y)

      ys : (x : X) → In x xs → List Y
      ys x m = (G x (E.lists.sound x m)).all

      row : (x : X) → In x xs → List (X × Y)
      row x m = map (pair x) (ys x m)

      apart : (x x' : X) (m : In x xs) (m' : In x' xs) (p : X × Y) → In p (row x m) → In p (row x' m') → x ≡ x'
      apart x x' m m' p h h' = let r = of_map (pair x) p (ys x m) h in let r' = of_map (pair x') p (ys x' m') h' in ap (λ (q : X × Y). q.0) (sym r.2 ∙ r'.2)

      good : (p : X × Y) → (x : X) × (m : In x xs) × In p (row x m) → P p.0 × Q p.0 p.1
      good p t =
          let r = of_map (pair t.0) p (ys t.0 t.1) t.2 in
          subst (λ (q : X × Y). P q.0 × Q q.0 q.1) (sym r.2) (E.lists.sound t.0 t.1, (G t.0 (E.lists.sound t.0 t.1)).lists.sound r.0 r.1)
