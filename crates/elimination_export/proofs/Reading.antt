-- A stream of checks, read word by word.
use Rattle.std.proofs.Common.{◌≡◌, ℕ, suc, ◌+◌, ◌<◌, ◌≤◌, Bool, true, false, cond, eqb, ltb, List, [], ◌∷◌, ◌++◌, length, get_or, drop, replicate, Some, None, Ok, Err, Result, sym, ap, ◌∙◌, subst, append_assoc, append-nil, add-one, drop-cons, le-ltb, lt-ltb}
use Rattle.std.proofs.lemmas.List.{drop_all}
use Rattle.terms.specs.Answering.{Answers}
use Rattle.terms.specs.declared.refusal.Refusal.{Refusal}
use Rattle.terms.specs.declared.refusal.Refusal.TheVariants.{QubitTooLarge}
use Rattle.linear.specs.Field.{bits}
use Rattle.linear.specs.System.{Row}
use Rattle.elimination.specs.Holds.{Holds}
use Rattle.elimination.specs.Calls.{check, more, outside, KeptIfRefused}
use Rattle.elimination.specs.declared.Elimination.{Elimination}
use Rattle.elimination_export.specs.Stream.{taken, rows_of}

-- i words are read: the checks so far, and those still to come
pub record Read (n : ℕ) (all : List ℕ) (i : ℕ) (e : Elimination Bool) : Type 0 where
  pub rows : List (Row Bool)
  pub written : List Bool
  pub holds : Holds bits e n rows written
  pub rest : rows ++ rows_of n written (drop i all) ≡ rows_of n (replicate n false) all

pub read_all : (n : ℕ) (all : List ℕ) (i : ℕ) (e : Elimination Bool) → length all ≤ i → (r : Read n all i e) → r.rows ≡ rows_of n (replicate n false) all
read_all n all i e h r = sym (ap (λ l. r.rows ++ rows_of n r.written l) (drop_all i all h) ∙ append-nil r.rows) ∙ r.rest

module _ (n : ℕ) (all : List ℕ) (i : ℕ) (e : Elimination Bool) (h : i < length all) (r : Read n all i e) where
  next : (a : Bool) → ltb (get_or all i 0) 65534 ≡ a
      → r.rows ++ cond a (rows_of n (taken (ltb (get_or all i 0) n) (get_or all i 0) r.written) (drop (suc i) all)) (check r.written (eqb (get_or all i 0) 65535) ∷ rows_of n (replicate n false) (drop (suc i) all))
      ≡ rows_of n (replicate n false) all
  next a p =
      sym
      (ap (λ l. r.rows ++ rows_of n r.written l) (drop-cons all i 0 h)
      ∙ ap (λ t. r.rows ++ cond t (rows_of n (taken (ltb (get_or all i 0) n) (get_or all i 0) r.written) (drop (suc i) all)) (check r.written (eqb (get_or all i 0) 65535) ∷ rows_of n (replicate n false) (drop (suc i) all))) p
      )
      ∙ r.rest

  onward : (rows : List (Row Bool)) (written : List Bool) (e' : Elimination Bool) → Holds bits e' n rows written → rows ++ rows_of n written (drop (suc i) all) ≡ rows_of n (replicate n false) all → Read n all (i + 1) e'
  onward rows written e' k q = record { rows = rows; written = written; holds = k; rest = ap (λ m. rows ++ rows_of n written (drop m all)) (add-one i) ∙ q }

  pub read_end : (e' : Elimination Bool) → 65534 ≤ get_or all i 0 → Holds bits e' n (r.rows ++ check r.written (eqb (get_or all i 0) 65535) ∷ []) (replicate n false) → Read n all (i + 1) e'
  read_end e' p k =
      onward (r.rows ++ check r.written (eqb (get_or all i 0) 65535) ∷ []) (replicate n false) e' k
      (append_assoc r.rows (check r.written (eqb (get_or all i 0) 65535) ∷ []) (rows_of n (replicate n false) (drop (suc i) all)) ∙ next false (le-ltb (get_or all i 0) 65534 p))

  pub read_place : (e' : Elimination Bool) (a : Result (Unit {0}) Refusal) → get_or all i 0 < 65534
      → Answers a (outside n (get_or all i 0)) (λ _. Holds bits e' n r.rows (more bits r.written (get_or all i 0) true)) → KeptIfRefused a e e' → Read n all (i + 1) e'
  read_place e' a p answers kept =
      onward r.rows (taken (ltb (get_or all i 0) n) (get_or all i 0) r.written) e' (go (ltb (get_or all i 0) n) a answers kept) (next true (lt-ltb (get_or all i 0) 65534 p))
    where
      go : (b : Bool) (a : Result (Unit {0}) Refusal) → Answers a (cond b None (Some QubitTooLarge)) (λ _. Holds bits e' n r.rows (more bits r.written (get_or all i 0) true)) → KeptIfRefused a e e'
          → Holds bits e' n r.rows (taken b (get_or all i 0) r.written)
      go true (Ok x) k _ = k
      go true (Err x) k _ = absurd k
      go false (Ok x) k _ = absurd k
      go false (Err x) k q = subst (λ (d : Elimination Bool). Holds bits d n r.rows r.written) (sym q) r.holds
