use Rattle.std.proofs.Common.{rules, tests, of_calls, ◌≡◌, List, ℕ, Some, None, Option, IfSome, is_some, ltb, sym, ap, ◌∙◌, subst}
use Rattle.terms.specs.declared.row.Row.{Row}
use Rattle.terms.specs.declared.row.Row.TheVariants.{Check, Generator}
use Rattle.meaning.specs.Meaning.{Meaning}
use Rattle.meaning.specs.Telling.{is_row}
use Rattle.meaning.proofs.Product.{product_checks, product_generators}
use Rattle.product.specs.declared.part.Parts.{Parts}
use Rattle.product.specs.OfProduct.{seed, meaning_of, told_of}
use Rattle.product.specs.Parts.{Splits, parts_told}
use Rattle.product.specs.Stands.{is_seed}
use Rattle.product.proofs.product.Product.parts.Goals as goal

-- parts that are there for a row alone, and then are its parts
splits : (M : Meaning) (told : Row → List ℕ) (row : Row) (o : Option Parts) (Q : Parts → Type 0) → is_some o ≡ is_row M row → IfSome o Q → ((p : Parts) → Q p → told row ≡ parts_told p) → Splits M told row o
splits M told row (Some p) Q h q k = (sym h, k p q)
splits M told row None Q h q k = sym h

pub returns-in-Check : goal.returns-in-Check
unfolding meaning_of told_of
returns-in-Check c =
    let p = c.args.self.now in
    let long = product_checks p.rows p.columns (seed p) (is_seed p) in
    subst (λ (x : Row). Splits (meaning_of p) (told_of p) x c.then.result) (sym c.in-Check.is)
    (splits (meaning_of p) (told_of p) (Check c.in-Check.k) c.then.result _ (c.then.ensures.variant ∙ ap (ltb c.in-Check.k) (sym long)) c.then.ensures.some (λ q h. search (rules, tests, of_calls)))

pub returns-in-Generator : goal.returns-in-Generator
unfolding meaning_of told_of
returns-in-Generator c =
    let p = c.args.self.now in
    let long = product_generators p.rows p.columns (seed p) (is_seed p) in
    subst (λ (x : Row). Splits (meaning_of p) (told_of p) x c.then-in-Generator.result) (sym c.in-Generator.is)
    (splits (meaning_of p) (told_of p) (Generator c.in-Generator.k) c.then-in-Generator.result _ (c.then-in-Generator.ensures.variant ∙ ap (ltb c.in-Generator.k) (sym long)) c.then-in-Generator.ensures.some (λ q h. search (rules, tests, of_calls)))
