use Rattle.std.proofs.Common.{◌≡◌, Ok, Err, Result, IfOk, ap, ◌∙◌, subst}
use Rattle.trialfile.specs.Contents.{contents_of, file_says}
use Rattle.filedecode.specs.Printed.{TrueLines, TrueOfFile}
use Rattle.filedecode.proofs.Lined.{a_line}
use Rattle.filedecode.proofs.decode_file.Goals as goal

pub returns-in-Err-clause-never_empty : goal.returns-in-Err-clause-never_empty
returns-in-Err-clause-never_empty c = a_line c.args.file.now

pub returns-in-Ok-clause-never_empty : goal.returns-in-Ok-clause-never_empty
returns-in-Ok-clause-never_empty c = a_line c.args.file.now

-- what the file says is what was read
said : {X E : Type 0} (Q : X → Type 0) (x : X) (told : Result X E) → Ok x ≡ told → Q x → (y : X) → told ≡ Ok y → Q y
said {X = X} {E = E} Q x told e q y f = subst Q (ok_same x (e ∙ f)) q
  where
    ok_same : {y : X} (d : X) → ◌≡◌ {A = Result X E} (Ok x) (Ok y) → x ≡ y
    ok_same d p = ap (λ r. elim r [ Ok z ↦ z | Err u ↦ d ]) p

pub returns-in-Ok-clause-truth : goal.returns-in-Ok-clause-truth
returns-in-Ok-clause-truth c =
    mapped c.trial_lines.result c.trial_lines.ensures.truth
  where
    mapped : {S E : Type 0} (r : Result S E) → IfOk r (λ _. TrueLines (contents_of c.in-Ok.file)) → IfOk r (λ _. TrueOfFile c.args.file.now)
    mapped (Ok s) t = said TrueLines (contents_of c.in-Ok.file) (file_says c.args.file.now) c.in-Ok.ensures.says t
    mapped (Err e) t = tt
