-- A list that is appended to another, element by element.
use Rattle.std.proofs.Common.{◌≡◌, ℕ, ◌+◌, ◌<◌, ◌≤◌, Bool, true, cond, List, [], ◌∷◌, ◌++◌, length, get_or, take, sym, ap, ◌∙◌, append_assoc}
use Rattle.std.proofs.lemmas.List.{take_more, take_all}

pub appended_more : (xs start before after : List ℕ) (k x : ℕ) → k < length xs → before ≡ start ++ take k xs → after ≡ before ++ x ∷ [] → x ≡ get_or xs k 0 → after ≡ start ++ take (k + 1) xs
appended_more xs start before after k x h b a e =
    a
    ∙ ap (λ l. l ++ x ∷ []) b
    ∙ append_assoc start (take k xs) (x ∷ [])
    ∙ ap (λ y. start ++ (take k xs ++ y ∷ [])) e
    ∙ ap (λ l. start ++ l) (sym (take_more xs k 0 h))

-- all of it, to what the list held at first; it was there to be told
pub appended_all : (xs start begun all : List ℕ) (k : ℕ) (there : Bool) → length xs ≤ k → there ≡ true → begun ≡ start → all ≡ begun ++ take k xs → all ≡ start ++ cond there xs []
appended_all xs start begun all k there h t b a = a ∙ ap (λ l. l ++ take k xs) b ∙ ap (λ l. start ++ l) (take_all k xs h) ∙ ap (λ b. start ++ cond b xs []) (sym t)
