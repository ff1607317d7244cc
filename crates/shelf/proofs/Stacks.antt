-- What putting on top and taking off the top do to the entries that are read from memory.
use Rattle.std.proofs.Common.{◌≡◌, ℕ, zero, suc, ◌+◌, ◌-◌, ◌<◌, ◌≤◌, true, false, ◌&&◌, leb, ltb, List, [], ◌∷◌, ◌++◌, Some, None, length, take, drop, sym, ap, ap₂, ◌∙◌, arith, length-drop}
use Rattle.std.specs.Prelude.{sum_by, slice_get}
use Rattle.std.proofs.lemmas.Option.{slice_get_past}
use Rattle.std.proofs.Math.Seq.{take-length, take-add}
use Rattle.std.proofs.Math.Bool.{and-false, and-true}
use Rattle.std.proofs.lemmas.Bool.{lt-ltb, le-ltb, le-leb, lt-leb, ltb-false}
use Rattle.std.proofs.lemmas.List.{take-append-le, drop-append-le, length-take-le}
use Rattle.std.proofs.lemmas.List.Sums.{sum_by-cons, sum_by-append}
use Rattle.shelf.specs.Shelving.{ToldEntry, Shelving, member_count, has_room, with_entry}
use Rattle.shelf.specs.Stacked.{entries_on, seen, Stacked}
use Rattle.shelf.specs.declared.Record.{Record}

abbrev pub counts : List Record → ℕ
counts rs = sum_by (λ r. r.count) rs

counts_cons : (r : Record) (rs : List Record) → counts (r ∷ rs) ≡ r.count + counts rs
counts_cons r rs = sum_by-cons (λ (r : Record). r.count) r rs

pub count_cons : (e : ToldEntry) (l : List ToldEntry) → member_count (e ∷ l) ≡ length e.members + member_count l
count_cons e l = sum_by-cons (λ (e : ToldEntry). length e.members) e l

-- the entry of a record with these members
abbrev pub entry : Record → List ℕ → ToldEntry
entry r ms = record { members = ms; check = r.check }

pub length_on : (older : List ToldEntry) (rs : List Record) (ms : List ℕ) → length (entries_on older rs ms) ≡ length older + length rs
length_on older [] ms = omega arith
length_on older (r ∷ rs) ms = omega (arith, length_on (entry r (take r.count ms) ∷ older) rs (drop r.count ms))

-- one more record, and its members
pub on_more : (older : List ToldEntry) (rs : List Record) (r : Record) (ms new : List ℕ) → counts rs ≡ length ms → length new ≡ r.count
    → entries_on older (rs ++ r ∷ []) (ms ++ new) ≡ entry r new ∷ entries_on older rs ms
on_more older [] r [] new e f = ap (λ m. entry r m ∷ older) (ap (λ k. take k new) (sym f) ∙ take-length new)
on_more older [] r (m ∷ ms) new e f = absurd (omega arith)
on_more older (s ∷ rs) r ms new e f =
    let h : s.count ≤ length ms = omega (arith, counts_cons s rs) in
    let e' : counts rs ≡ length (drop s.count ms) = omega (arith, length-drop s.count ms, counts_cons s rs) in
    ap (λ m. entries_on (entry s m ∷ older) (rs ++ r ∷ []) (drop s.count (ms ++ new))) (take-append-le s.count ms new h)
    ∙ ap (λ m. entries_on (entry s (take s.count ms) ∷ older) (rs ++ r ∷ []) m) (drop-append-le s.count ms new h)
    ∙ on_more (entry s (take s.count ms) ∷ older) rs r (drop s.count ms) new e' f

-- all members are those of the entries
pub members_on : (older : List ToldEntry) (rs : List Record) (ms : List ℕ) → counts rs ≡ length ms → member_count (entries_on older rs ms) ≡ member_count older + length ms
members_on older [] [] e = omega arith
members_on older [] (m ∷ ms) e = absurd (omega arith)
members_on older (r ∷ rs) ms e =
    let h : r.count ≤ length ms = omega (arith, counts_cons r rs) in
    let e' : counts rs ≡ length (drop r.count ms) = omega (arith, length-drop r.count ms, counts_cons r rs) in
    omega (arith, members_on (entry r (take r.count ms) ∷ older) rs (drop r.count ms) e', length-take-le r.count ms h, length-drop r.count ms, count_cons (entry r (take r.count ms)) older)

-- a record on top: the newest entry, and those below it
pub topped : (records : List Record) (len below : ℕ) (members : List ℕ) (filled : ℕ) (r : Record) → Stacked records len members filled → take len records ≡ take below records ++ r ∷ []
    → entries_on [] (take len records) (take filled members)
    ≡ entry r (take (filled - (filled - r.count)) (drop (filled - r.count) members)) ∷ entries_on [] (take below records) (take (filled - r.count) members)
topped records len below members filled r s e =
    let sums : counts (take below records) + r.count ≡ filled = omega (arith, sum_by-append (λ (r : Record). r.count) (take below records) (r ∷ []), ap counts e, s.counted, counts_cons r []) in
    let start : ℕ = filled - r.count in
    let whole : start + r.count ≡ filled = omega arith in
    let part : r.count ≡ filled - start = omega arith in
    let long : length (take r.count (drop start members)) ≡ r.count = length-take-le r.count (drop start members) (omega (arith, length-drop start members, s.members_held)) in
    let low : length (take start members) ≡ start = length-take-le start members (omega (arith, s.members_held)) in
    ap (λ rs. entries_on [] rs (take filled members)) e
    ∙ ap (λ k. entries_on [] (take below records ++ r ∷ []) (take k members)) (sym whole)
    ∙ ap (entries_on [] (take below records ++ r ∷ [])) (take-add start r.count members)
    ∙ on_more [] (take below records) r (take start members) (take r.count (drop start members)) (omega (arith, sums, whole, low)) long
    ∙ ap (λ k. entry r (take k (drop start members)) ∷ entries_on [] (take below records) (take start members)) part

abbrev shelving : List ToldEntry → ℕ → ℕ → Shelving
shelving l q k = record { entries = l; qubits = q; checks = k }

module _ (records : List Record) (len : ℕ) (members : List ℕ) (filled : ℕ) (s : Stacked records len members filled) where
  counted : counts (take len records) ≡ length (take filled members)
  counted = s.counted ∙ sym (length-take-le filled members s.members_held)

  room_is : (new : List ℕ) → has_room (seen records len members filled) new ≡ (ltb len (length records) && leb (filled + length new) (length members))
  room_is new =
      let l : length (entries_on [] (take len records) (take filled members)) ≡ len = omega (arith, length_on [] (take len records) (take filled members), length-take-le len records s.records_held) in
      let m : member_count (entries_on [] (take len records) (take filled members)) ≡ filled = omega (arith, members_on [] (take len records) (take filled members) counted, length-take-le filled members s.members_held) in
      ap₂ (λ l m. ltb l (length records) && leb (m + length new) (length members)) l m

  pub too_many : (new : List ℕ) → length members < filled + length new → has_room (seen records len members filled) new ≡ false
  too_many new h = room_is new ∙ ap (λ b. ltb len (length records) && b) (lt-leb (filled + length new) (length members) h) ∙ and-false (ltb len (length records))

  pub no_record : (new : List ℕ) → length records ≤ len → has_room (seen records len members filled) new ≡ false
  no_record new h = room_is new ∙ ap (λ b. b && leb (filled + length new) (length members)) (le-ltb len (length records) h)

  pub room : (new : List ℕ) → len < length records → filled + length new ≤ length members → has_room (seen records len members filled) new ≡ true
  room new h k = room_is new ∙ ap₂ ◌&&◌ (lt-ltb len (length records) h) (le-leb (filled + length new) (length members) k)

  -- a record on top, and its members
  pub on_top : (records' : List Record) (len' : ℕ) (members' : List ℕ) (filled' : ℕ) (r : Record) (new : List ℕ) → length new ≡ r.count
      → take len' records' ≡ take len records ++ r ∷ [] → take filled' members' ≡ take filled members ++ new → length members' ≡ length members → length records' ≡ length records
      → seen records' len' members' filled' ≡ with_entry (seen records len members filled) new r.check
  on_top records' len' members' filled' r new n e f m k =
      ap (λ l. shelving l (length members') (length records')) (ap₂ (entries_on []) e f ∙ on_more [] (take len records) r (take filled members) new counted n)
      ∙ ap₂ (shelving (entry r new ∷ entries_on [] (take len records) (take filled members))) m k

-- without the top, what is left is stacked too
pub stacked_below : (records : List Record) (len below : ℕ) (members : List ℕ) (filled : ℕ) (r : Record) → Stacked records len members filled → take len records ≡ take below records ++ r ∷ [] → below ≤ len
    → Stacked records below members (filled - r.count) × (r.count ≤ filled)
stacked_below records len below members filled r s e low =
    let sums : counts (take below records) + r.count ≡ filled = omega (arith, sum_by-append (λ (r : Record). r.count) (take below records) (r ∷ []), ap counts e, s.counted, counts_cons r []) in (
      record {
        records_held = omega (arith, s.records_held, low);
        members_held = omega (arith, s.members_held);
        counted = omega (arith, sums);
        few = s.few;
      },
      omega (arith, sums),
    )

-- where a list goes on with e from the place i
pub at_place : (i : ℕ) (l : List ToldEntry) (e : ToldEntry) (t : List ToldEntry) → e ∷ t ≡ drop i l → (Some e ≡ slice_get l i) × (t ≡ drop (i + 1) l)
at_place zero [] e t h = cc
at_place zero (x ∷ l) e t h = (cc, cc)
at_place (suc i) [] e t h = cc
at_place (suc i) (x ∷ l) e t h = let on : suc i + 1 ≡ suc (i + 1) = omega arith in let r = at_place i l e t h in (r.0, r.1 ∙ sym (ap (λ k. drop k (x ∷ l)) on))

pub past_place : (i : ℕ) (l : List ToldEntry) → [] ≡ drop i l → (j : ℕ) → i ≤ j → None ≡ slice_get l j
past_place i l h j le = sym (slice_get_past l j (omega (arith, ap length h, length-drop i l)))

-- where there is no top, nothing is held
pub no_top : (records : List Record) (len : ℕ) (members : List ℕ) (filled places : ℕ) → Stacked records len members filled → length records ≡ places → false ≡ (ltb 0 len && leb len places) → [] ≡ entries_on [] (take len records) (take filled members)
no_top records len members filled places s e t =
    let held : leb len places ≡ true = le-leb len places (omega (arith, s.records_held, e)) in
    let low : len ≡ 0 = omega (arith, ltb-false 0 len (sym (t ∙ ap (λ b. ltb 0 len && b) held ∙ and-true (ltb 0 len)))) in
    ap (λ n. entries_on [] (take n records) (take filled members)) (sym low)
