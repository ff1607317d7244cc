use Rattle.std.proofs.Common.{subst, sym, vec_items, string_bytes}
use Rattle.std.specs.Str.Iter.{split_whitespace_rest}
use Rattle.played.proofs.Words.{ReadsOn, number_read, other_read, all_read}
use Rattle.played.proofs.line.Line.read.Goals as goal

pub loop-token-preserved-in-Continue-1 : goal.loop-token-preserved-in-Continue-1
loop-token-preserved-in-Continue-1 c =
    subst (λ l. ReadsOn c.args.largest c.args.text.now (split_whitespace_rest c.next.new.self) l (string_bytes c.loop-token.word)) (sym c.in_ok-push-in-Some-number_in.ensures.items)
    (number_read c.args.largest c.in-Some.token.now _ _ c.in-Some.ensures.steps c.loop-token.invariant c.in-Some-number_in.number c.in-Some-number_in.ensures)

pub loop-token-preserved : goal.loop-token-preserved
loop-token-preserved c =
    subst (ReadsOn c.args.largest c.args.text.now (split_whitespace_rest c.next.new.self) (vec_items c.loop-token.numbers)) (sym c.in_ok-push_str-in-None-number_in.ensures.bytes)
    (other_read c.args.largest c.in-Some.token.now _ _ c.in-Some.ensures.steps c.loop-token.invariant c.in-None-number_in.ensures)

pub returns : goal.returns
returns c = all_read c.args.largest _ _ c.in-None.ensures.steps.1 c.loop-token.invariant
