-- The tables of a trial as it is opened.
use Rattle.std.proofs.Common.{◌≡◌, ℕ, zero, suc, ◌<◌, ◌≤◌, Bool, true, false, not, ◌||◌, ltb, ◌⊎◌, List, [], ◌∷◌, map, length, get_or, set, replicate, sym, refl, ap, ◌∙◌, inl, inr, arith, ltb-true}
use lib.ListN.{length-replicate}
use Rattle.std.proofs.lemmas.List.{map-set, get_or-map, length-map, set-get_or, get_or_past}
use Rattle.std.proofs.lemmas.Bool.{cases_lt, not-false, or_parts}
use Rattle.sets.specs.Lists.{In}
use Rattle.sets.specs.Sets.{has, empty, marks, among, elements}
use Rattle.sets.proofs.Lists.{in_get_or}
use Rattle.sets.proofs.Marks.{length_marks, has_marks}
use Rattle.sets.proofs.Sets.{ext, has_empty}
use Rattle.meaning.specs.Meaning.{Meaning, Sound, qubits}
use Rattle.rules.specs.declared.answers.Status.{Status}
use Rattle.rules.specs.declared.answers.Status.TheVariants.{Erased, Shelved, Done}
use Rattle.rules.specs.Reports.{some_past, report}
use Rattle.rules.specs.States.{State, opening}
use Rattle.upkeep.specs.Changed.{changed, marked, raised}
use Rattle.upkeep.specs.Counts.{counts_in}
use Rattle.upkeep.specs.Statuses.{is_erased, is_shelved, erased_of, shelved_of}
use Rattle.upkeep.proofs.Changed.{length_changed, marked_at}
use Rattle.upkeep.proofs.Counts.{counts_raised}
use Rattle.upkeep.proofs.Holders.{holders_once, holders_named}

-- none of a list lies past n
pub past_in : (n : ℕ) (l : List ℕ) → some_past n l ≡ false → (q : ℕ) → In q l → q < n
past_in n [] e q m = absurd m
past_in n (k ∷ l) e q (inl s) = let b = or_parts (not (ltb k n)) (some_past n l) e in let h = ltb-true k n (not-false (ltb k n) b.0) in omega arith
past_in n (k ∷ l) e q (inr m) = past_in n l (or_parts (not (ltb k n)) (some_past n l) e).1 q m

pub past_at : (n : ℕ) (l : List ℕ) → some_past n l ≡ false → (i : ℕ) → i < length l → get_or l i 0 < n
past_at n l e i h = past_in n l e (get_or l i 0) (in_get_or l i 0 h)

-- marks set one after another are the set of what is listed
pub marked_marks : (n : ℕ) (l : List ℕ) → some_past n l ≡ false → marked l (empty n) ≡ marks n l
marked_marks n l e = ext (marked l (empty n)) (marks n l) (long ∙ sym (length_marks n l)) (λ k. go k (cases_lt k n))
  where
    long : length (marked l (empty n)) ≡ n
    long = length_changed false (λ _. true) l (empty n) ∙ length-replicate n false

    or_no : (b : Bool) → (b || false) ≡ b
    or_no true = refl
    or_no false = refl

    go : (k : ℕ) → (k < n) ⊎ (n ≤ k) → has (marked l (empty n)) k ≡ has (marks n l) k
    go k (inl h) =
        marked_at l (empty n) k (omega (arith, length-replicate n false))
        ∙ ap (λ t. among k l || t) (has_empty n k) ∙ or_no (among k l) ∙ sym (has_marks n l (past_in n l e) k)
    go k (inr h) = get_or_past (marked l (empty n)) k false (omega (arith, long)) ∙ sym (get_or_past (marks n l) k false (omega (arith, length_marks n l)))

-- statuses, of which the listed ones are made erased
pub erased_changed : (l : List ℕ) (st : List Status) → erased_of (changed Done (λ _. Erased) l st) ≡ marked l (erased_of st)
erased_changed [] st = refl
erased_changed (k ∷ l) st = erased_changed l (set st k Erased) ∙ ap (marked l) (map-set is_erased st k Erased)

pub shelved_changed : (n : ℕ) (l : List ℕ) (st : List Status) → shelved_of st ≡ empty n → shelved_of (changed Done (λ _. Erased) l st) ≡ empty n
shelved_changed n [] st e = e
shelved_changed n (k ∷ l) st e =
    shelved_changed n l (set st k Erased)
    (map-set is_shelved st k Erased ∙ ap (λ m. set m k false) e ∙ ap (set (empty n) k) (sym (has_empty n k)) ∙ set-get_or (empty n) k false)

map_all : {X Y : Type 0} (f : X → Y) (n : ℕ) (x : X) → map f (replicate n x) ≡ replicate n (f x)
map_all f zero x = refl
map_all f (suc n) x = ap (λ l. f x ∷ l) (map_all f n x)

pub erased_none : (n : ℕ) → erased_of (replicate n Done) ≡ empty n
erased_none n = map_all is_erased n Done

pub shelved_none : (n : ℕ) → shelved_of (replicate n Done) ≡ empty n
shelved_none n = map_all is_shelved n Done

-- what is erased already stays as it is
pub erased_again : (status : List Status) (q : ℕ) → q < length status → has (erased_of status) q ≡ true → set status q Erased ≡ status
erased_again status q low e = ap (set status q) (sym (only_erased (get_or status q Done) (sym (get_or-map is_erased status q Done false low) ∙ e))) ∙ set-get_or status q Done
  where
    only_erased : (s : Status) → is_erased s ≡ true → s ≡ Erased
    only_erased Erased h = refl
    only_erased Shelved h = let z : ◌≡◌ {A = ℕ} 0 1 = cc in absurd (omega arith)
    only_erased Done h = let z : ◌≡◌ {A = ℕ} 0 1 = cc in absurd (omega arith)

-- and what is not counts in its checks from then on
pub counts_erased : (M : Meaning) → Sound M → (status : List Status) → length status ≡ qubits M → (q : ℕ) → q < length status → has (erased_of status) q ≡ false
    → (counts : List ℕ) → counts ≡ counts_in M.checks (erased_of status) → raised (elements (map (λ s. has s q) M.checks)) counts ≡ counts_in M.checks (erased_of (set status q Erased))
counts_erased M sound status long q low e counts c =
    let l : length (erased_of status) ≡ qubits M = length-map status is_erased ∙ long in
    ap (raised (elements (map (λ s. has s q) M.checks))) c
    ∙ counts_raised M.checks (erased_of status) q (elements (map (λ s. has s q) M.checks)) (holders_once M.checks q) (λ k _. holders_named M.checks q k)
    (omega arith) (omega (arith, sound.few_qubits)) (λ s m. sound.checks_range s m ∙ sym l) e
    ∙ ap (counts_in M.checks) (sym (map-set is_erased status q Erased))

-- the trial as it is opened
pub is_opening : (M : Meaning) (lost odds : List ℕ) (number : ℕ) → some_past (qubits M) lost ≡ false → some_past (length M.checks) odds ≡ false
    → (status : List Status) → status ≡ changed Done (λ _. Erased) lost (replicate (qubits M) Done)
    → ◌≡◌ {A = State}
    (record {
      erased = erased_of status;
      shelved = shelved_of status;
      flipped = replicate (qubits M) false;
      closed = replicate (length M.checks) false;
      odds = marked odds (replicate (length M.checks) false);
      shelf = [];
      void = false;
      number = number;
      peeled = 0;
      pruned = 0;
      chosen = 0;
    })
    (opening M (report M lost odds) number)
is_opening M lost odds number el eo status es =
    let e : erased_of status ≡ marks (qubits M) lost =
    ap erased_of es ∙ erased_changed lost (replicate (qubits M) Done) ∙ ap (marked lost) (erased_none (qubits M)) ∙ marked_marks (qubits M) lost el in
    let s : shelved_of status ≡ empty (qubits M) = ap shelved_of es ∙ shelved_changed (qubits M) lost (replicate (qubits M) Done) (shelved_none (qubits M)) in
    let o = marked_marks (length M.checks) odds eo in
    λ i.
    record {
      erased = e i;
      shelved = s i;
      flipped = replicate (qubits M) false;
      closed = replicate (length M.checks) false;
      odds = o i;
      shelf = [];
      void = false;
      number = number;
      peeled = 0;
      pruned = 0;
      chosen = 0;
    }
