-- Reading word after word.
use Rattle.std.proofs.Common.{◌≡◌, ℕ, ◌≤◌, List, [], ◌∷◌, ◌++◌, length, true, false, cond, Some, None, sym, ap, ◌∙◌, append_assoc, append-nil}
use Rattle.std.proofs.lemmas.Bool.{ltb-true, leb-true, lt-ltb, le-leb, and_parts, and_from, false_from_ne_true}
use Rattle.std.proofs.lemmas.Str.Parse.{IsNumeralModel, numerals_by_value, tells_all_ascii_digits}
use Rattle.std.specs.List.{concat, filter, cons_option}
use Rattle.std.specs.Option.{is_none}
use Rattle.std.specs.Str.{all_ascii_digits}
use Rattle.std.specs.Str.Parse.{IsNumeral, digits_value}
use Rattle.played.specs.Words.{StartsWithWord, SplitsInto, number_of, is_number, numbers_among, word_among}

-- the words of text give numbers and word
abbrev pub Gives : ℕ → List ℕ → List ℕ → List ℕ → Type 0
Gives largest text numbers word = (ws : List (List ℕ)) × SplitsInto text ws × (numbers ≡ numbers_among largest ws) × (word ≡ word_among largest ws)

-- numbers and word are what text gives before rest: the words of rest add theirs to them
abbrev pub ReadsOn : ℕ → List ℕ → List ℕ → List ℕ → List ℕ → Type 0
ReadsOn largest text rest numbers word = (ws : List (List ℕ)) → SplitsInto rest ws → Gives largest text (numbers ++ numbers_among largest ws) (word ++ word_among largest ws)

module _ (largest : ℕ) {text rest next : List ℕ} (w : List ℕ) (numbers word : List ℕ) (starts : StartsWithWord rest w next) (before : ReadsOn largest text rest numbers word) where
  abbrev others : List (List ℕ) → List (List ℕ)
  others ws = filter (λ v. is_none (number_of largest v)) ws

  pub number_read : (n : ℕ) → Some n ≡ number_of largest w → ReadsOn largest text next (numbers ++ n ∷ []) word
  number_read n is ws splits =
      let g = before (w ∷ ws) (next, starts, splits) in (
        g.0,
        g.1,
        append_assoc numbers (n ∷ []) (numbers_among largest ws) ∙ ap (λ o. numbers ++ cons_option o (numbers_among largest ws)) is ∙ g.2,
        ap (λ o. word ++ concat (cond (is_none o) (w ∷ others ws) (others ws))) is ∙ g.3,
      )

  pub other_read : None ≡ number_of largest w → ReadsOn largest text next numbers (word ++ w)
  other_read is ws splits =
      let g = before (w ∷ ws) (next, starts, splits) in (
        g.0,
        g.1,
        ap (λ o. numbers ++ cons_option o (numbers_among largest ws)) is ∙ g.2,
        append_assoc word w (word_among largest ws) ∙ ap (λ o. word ++ concat (cond (is_none o) (w ∷ others ws) (others ws))) is ∙ g.3,
      )

pub all_read : (largest : ℕ) {text rest : List ℕ} (numbers word : List ℕ) → SplitsInto rest [] → ReadsOn largest text rest numbers word → Gives largest text numbers word
all_read largest numbers word none before =
    let g = before [] none in
    (g.0, g.1, sym (append-nil numbers) ∙ g.2, sym (append-nil word) ∙ g.3)

digits : IsNumeralModel (λ ds. all_ascii_digits ds ≡ true) (digits_value 10)
digits = numerals_by_value _ tells_all_ascii_digits

module _ (largest : ℕ) (ds : List ℕ) where
  pub number_written : IsNumeral 10 ds → digits_value 10 ds ≤ largest → is_number largest ds ≡ true
  number_written is le = and_from _ _ (lt-ltb 0 (length ds) is.0) (and_from _ _ (digits.from ds is.1) (le-leb _ largest le))

  pub none_written : ¬ (IsNumeral 10 ds × (digits_value 10 ds ≤ largest)) → is_number largest ds ≡ false
  none_written none = false_from_ne_true (is_number largest ds) (λ e. (let (some, is) = and_parts _ _ e in let (all, le) = and_parts _ _ is in none ((ltb-true 0 (length ds) some, digits.to ds all), leb-true _ largest le)))
