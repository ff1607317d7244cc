-- Values read one after the other: what one more does.
use Rattle.std.proofs.Common.{◌≡◌, ℕ, suc, List, [], ◌∷◌, ◌++◌, Some, None, Ok, Err, Option, Result, inr, sym, refl, ap, ◌∙◌, append_assoc, append-nil}
use Rattle.tokens.specs.Tokens.{Rest}
use Rattle.trialfile.specs.declared.fault.SectionFault.{SectionFault}
use Rattle.trialfile.specs.Reading.{Reading, gives, go_on, each, AnswersUnlessMemory}

-- what is read, with the values before it
abbrev pub after_these : {X : Type 0} → List X → Result (List X × Rest) SectionFault → Result (List X × Rest) SectionFault
after_these l told = go_on told (λ k. gives (l ++ k))

-- an answer that is a fault
pub told_fault : {X Y : Type 0} (view : X → Y) (answer : Result X SectionFault) (e d : SectionFault) (r : Rest) (told : Result (Y × Rest) SectionFault) → answer ≡ Err e → e ≡ d → Err d ≡ told → AnswersUnlessMemory view answer r told
told_fault view (Ok x) e d r told p q t = cc
told_fault view (Err c) e d r told p q t = inr (cc)

module _ {X : Type 0} (f : Option X → Reading X) where
  longer : (l : List X) (x : X) (told : Result (List X × Rest) SectionFault) → after_these l (go_on told (λ k. gives (x ∷ k))) ≡ after_these (l ++ x ∷ []) told
  longer l x (Ok p) = ap (λ (k : List X). Ok (k, p.1)) (sym (append_assoc l (x ∷ []) p.0))
  longer l x (Err e) = refl

  all : (told : Result (List X × Rest) SectionFault) → told ≡ after_these [] told
  all (Ok p) = refl
  all (Err e) = refl

  pub each_begins : (n m : ℕ) (l : List X) (r : Rest) → n ≡ m → l ≡ [] → each n f None r ≡ after_these l (each m f None r)
  each_begins n m l r p q = all (each n f None r) ∙ (λ i. after_these (sym q i) (each (p i) f None r))

  pub each_more : (told : Result (List X × Rest) SectionFault) (n m : ℕ) (l k : List X) (last : Option X) (x : X) (r s : Rest) → n ≡ suc m → k ≡ l ++ x ∷ [] → told ≡ after_these l (each n f last r) → Ok (x, s) ≡ f last r → told ≡ after_these k (each m f (Some x) s)
  each_more told n m l k last x r s e q t h =
      t ∙ ap (λ k. after_these l (each k f last r)) e ∙ ap (λ a. after_these l (go_on a (λ x. λ r. go_on (each m f (Some x) r) (λ k. gives (x ∷ k))))) (sym h) ∙ longer l x (each m f (Some x) s) ∙ ap (λ k. after_these k (each m f (Some x) s)) (sym q)

  pub each_fails : (told : Result (List X × Rest) SectionFault) (n m : ℕ) (l : List X) (last : Option X) (e : SectionFault) (r : Rest) → n ≡ suc m → told ≡ after_these l (each n f last r) → Err e ≡ f last r → Err e ≡ told
  each_fails told n m l last e r q t h =
      sym (t ∙ ap (λ k. after_these l (each k f last r)) q ∙ ap (λ a. after_these l (go_on a (λ x. λ r. go_on (each m f (Some x) r) (λ k. gives (x ∷ k))))) (sym h))

  pub each_done : (told : Result (List X × Rest) SectionFault) (n : ℕ) (l : List X) (last : Option X) (r : Rest) → n ≡ 0 → told ≡ after_these l (each n f last r) → Ok (l, r) ≡ told
  each_done told n l last r q t = sym (t ∙ ap (λ k. after_these l (each k f last r)) q ∙ ap (λ (k : List X). Ok (k, r)) (append-nil l))
