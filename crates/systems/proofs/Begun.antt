-- A system as it is begun, and with one check more.
use Rattle.std.proofs.Common.{◌≡◌, ℕ, ◌<◌, Option, Result, Ok, Err, Some, None, Bool, true, false, ◌||◌, eqb, List, [], ◌∷◌, ◌++◌, map, length, set, replicate, sym, refl, ap, ◌∙◌, subst, arith, eqb-true, length-set, get_or-set_same, get_or-set_other}
use lib.ListN.{length-replicate}
use borrow.Author.Tests.{eqb-false}
use Rattle.std.proofs.lemmas.List.{map-append}
use Rattle.terms.specs.Answering.{Answers}
use Rattle.terms.specs.declared.refusal.Refusal.{Refusal}
use Rattle.sets.specs.Sets.{has, row, size, elements, empty}
use Rattle.sets.proofs.Sets.{has_empty}
use Rattle.meaning.specs.Meaning.{Meaning}
use Rattle.linear.specs.Field.{bits}
use Rattle.linear.specs.System.{Row}
use Rattle.linear.specs.Compress.{compress}
use Rattle.elimination.specs.Holds.{Holds}
use Rattle.elimination.specs.Calls.{check}
use Rattle.systems.specs.declared.System.{System}
use Rattle.systems.specs.Stated.{Stated, equation, unknowns_of}
use Rattle.systems.proofs.Places.{among_more}

pub answers_more : {X : Type 0} (r : Result X Refusal) (f : Option Refusal) (P Q : X → Type 0) → ((x : X) → P x → Q x) → Answers r f P → Answers r f Q
answers_more (Ok x) (Some f) P Q h a = a
answers_more (Ok x) None P Q h a = h x a
answers_more (Err e) (Some f) P Q h a = a
answers_more (Err e) None P Q h a = a

pub begun : (e : System) (M : Meaning) (k odds : List Bool) (n : ℕ) → elements k ≡ unknowns_of e → size k ≡ n → length odds ≡ length M.checks → Holds bits e.elimination n [] (replicate n false)
    → Stated e M k (empty (length M.checks)) odds
begun e M k odds n u s o h =
    record {
      among_range = length-replicate (length M.checks) false;
      odds_range = o;
      unknowns = u;
      order = [];
      held = subst (λ (m : ℕ). Holds bits e.elimination m [] (replicate m false)) (sym s) h;
      named = λ d _. sym (has_empty (length M.checks) d);
    }

module _ (e e' : System) (M : Meaning) (k among odds : List Bool) (s : Stated e M k among odds) (u : unknowns_of e' ≡ unknowns_of e) where
  -- with the same system
  pub still : Holds bits e'.elimination (size k) (map (equation M k odds) s.order) (replicate (size k) false) → Stated e' M k among odds
  still h = record { among_range = s.among_range; odds_range = s.odds_range; unknowns = s.unknowns ∙ sym u; order = s.order; held = h; named = s.named }

  -- with the check c besides
  pub added : (c : ℕ) (odd : Bool) → odd ≡ has odds c → Holds bits e'.elimination (size k) (map (equation M k odds) s.order ++ check (compress bits k (row M.checks c)) odd ∷ []) (replicate (size k) false)
      → Stated e' M k (set among c true) odds
  added c odd o h =
      record {
        among_range = length-set among c true ∙ s.among_range;
        odds_range = s.odds_range;
        unknowns = s.unknowns ∙ sym u;
        order = s.order ++ c ∷ [];
        held =
            subst (λ (l : List (Row Bool)). Holds bits e'.elimination (size k) l (replicate (size k) false))
            (ap (λ b. map (equation M k odds) s.order ++ check (compress bits k (row M.checks c)) b ∷ []) o ∙ sym (map-append (equation M k odds) s.order (c ∷ []))) h;
        named = λ d l. among_more s.order c d ∙ ap (λ b. b || eqb d c) (s.named d l) ∙ go d l (eqb d c) refl (has among d) refl;
      }
    where
      go : (d : ℕ) → d < length M.checks → (t : Bool) → eqb d c ≡ t → (b : Bool) → has among d ≡ b → (b || t) ≡ has (set among c true) d
      go d l true e b u = let l' : c < length among = omega (arith, s.among_range, eqb-true d c e) in or_true b ∙ sym (ap (has (set among c true)) (eqb-true d c e) ∙ get_or-set_same among c true false l')
        where
          or_true : (b : Bool) → (b || true) ≡ true
          or_true true = refl
          or_true false = refl
      go d l false e b u = or_false b ∙ sym u ∙ sym (get_or-set_other among c d true false (eqb-false d c e))
        where
          or_false : (b : Bool) → (b || false) ≡ b
          or_false true = refl
          or_false false = refl
