-- A code is the code that its rows and sides make up.
use Rattle.std.proofs.Common.{◌≡◌, ℕ, Bool, true, false, List, [], ◌∷◌, map, length, get_or, sym, refl, ap, ◌∙◌, subst, ltb-true, lt-ltb}
use Rattle.std.specs.List.{range_with_len}
use Rattle.std.proofs.lemmas.List.{length-map}
use Rattle.terms.specs.Rows.{exchanged, side_of}
use Rattle.terms.specs.declared.row.Row.{Row}
use Rattle.terms.specs.declared.row.Row.TheVariants.{Check, Generator}
use Rattle.terms.specs.declared.row.Side.{Side}
use Rattle.sets.specs.Sets.{marks, among, repeats}
use Rattle.sets.proofs.Lists.{in_get_or}
use Rattle.meaning.specs.Meaning.{Meaning, Sound, qubits, turned}
use Rattle.meaning.proofs.Turned.{turned_sound, turned_tells}
use Rattle.meaning.specs.Telling.{Tells, is_row}
use Rattle.meaning.specs.Listed.{listed_told}
use Rattle.rows.specs.Crossing.{namers}
use Rattle.table.specs.Columns.{columns}
use Rattle.table.specs.Held.{on_side_one, held_code}
use Rattle.table.proofs.Told.{Told, row_at, sets_are, columns_are}

side_back : (sides : List Bool) → map on_side_one (map side_of sides) ≡ sides
side_back [] = refl
side_back (true ∷ sides) = ap (λ l. true ∷ l) (side_back sides)
side_back (false ∷ sides) = ap (λ l. false ∷ l) (side_back sides)

module _ (M : Meaning) (told : Row → List ℕ) (s : Sound M) (t : Tells M told) where
  checks_told : Told (qubits M) M.checks (λ k. told (Check k))
  checks_told =
      record {
        wide = λ k h. s.checks_range (get_or M.checks k []) (in_get_or M.checks k [] h);
        names = λ k h. t.names (Check k) (lt-ltb k (length M.checks) h);
        once = λ k h. t.once (Check k) (lt-ltb k (length M.checks) h);
      }

  -- checks that were read crosswise, over as many rows and numbers as the code has
  pub crossed : (rows at : List (List ℕ)) (count n : ℕ) → rows ≡ map (λ k. told (Check k)) (range_with_len 0 (length M.checks)) → count ≡ length M.checks → n ≡ qubits M
      → at ≡ map (λ q. namers rows q count) (range_with_len 0 n) → at ≡ columns (qubits M) M.checks
  crossed rows at count n r c q a =
      a ∙ (λ i. map (λ q. namers (r i) q (c i)) (range_with_len 0 (q i))) ∙ columns_are (qubits M) M.checks (λ k. told (Check k)) checks_told

module _ (M : Meaning) (told : Row → List ℕ) (s : Sound M) (t : Tells M told) where
  generators_told : Told (qubits M) M.generators (λ k. told (Generator k))
  generators_told = checks_told (turned M) (λ r. told (exchanged r)) (turned_sound M s) (turned_tells M told t)

  -- the code's rows and sides, as they were read
  module _ (cs gs : List (List ℕ)) (sides : List Side)
      (ec : cs ≡ map (λ k. told (Check k)) (range_with_len 0 (length M.checks)))
      (eg : gs ≡ map (λ k. told (Generator k)) (range_with_len 0 (length M.generators)))
      (es : sides ≡ map side_of M.sides) where
    sides_are : map on_side_one sides ≡ M.sides
    sides_are = ap (map on_side_one) es ∙ side_back M.sides

    long : length sides ≡ qubits M
    long = sym (length-map sides on_side_one) ∙ ap length sides_are

    checks_are : (held_code cs gs sides).checks ≡ M.checks
    checks_are = (λ i. map (marks (length (sides_are i))) (ec i)) ∙ sets_are (qubits M) M.checks (λ k. told (Check k)) (checks_told M told s t)

    generators_are : (held_code cs gs sides).generators ≡ M.generators
    generators_are = (λ i. map (marks (length (sides_are i))) (eg i)) ∙ sets_are (qubits M) M.generators (λ k. told (Generator k)) generators_told

    pub code_is : held_code cs gs sides ≡ M
    code_is = λ i. record { checks = checks_are i; generators = generators_are i; sides = sides_are i }

    pub told_is : (r : Row) → is_row M r ≡ true → listed_told cs gs r ≡ told r
    told_is (Check k) h = ap (λ l. get_or l k []) ec ∙ row_at (qubits M) M.checks (λ k. told (Check k)) (checks_told M told s t) k (ltb-true k (length M.checks) h)
    told_is (Generator k) h = ap (λ l. get_or l k []) eg ∙ row_at (qubits M) M.generators (λ k. told (Generator k)) generators_told k (ltb-true k (length M.generators) h)

    pub held_sound : Sound (held_code cs gs sides)
    held_sound = subst (λ (N : Meaning). Sound N) (sym code_is) s

    told_same : Tells M (listed_told cs gs)
    told_same =
        record {
          names = λ r h q. ap (among q) (told_is r h) ∙ t.names r h q;
          once = λ r h. ap repeats (told_is r h) ∙ t.once r h;
        }

    pub held_tells : Tells (held_code cs gs sides) (listed_told cs gs)
    held_tells = subst (λ (N : Meaning). Tells N (listed_told cs gs)) (sym code_is) told_same

    -- read crosswise, the rows are those of the code
    pub check_columns : (at : List (List ℕ)) → at ≡ columns (qubits M) M.checks → at ≡ columns (length sides) (held_code cs gs sides).checks
    check_columns at a = a ∙ sym (λ i. columns (long i) (checks_are i))

    pub generator_columns : (at : List (List ℕ)) → at ≡ columns (qubits M) M.generators → at ≡ columns (length sides) (held_code cs gs sides).generators
    generator_columns at a = a ∙ sym (λ i. columns (long i) (generators_are i))
