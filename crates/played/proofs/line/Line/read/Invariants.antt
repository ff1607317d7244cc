use Rattle.std.proofs.Common.{vec_items, string_bytes}
use Rattle.std.specs.Str.Iter.{split_whitespace_rest}
use Rattle.played.proofs.Words.{ReadsOn}
use Rattle.played.proofs.line.Line.read.Given as goal

abbrev pub invariant-loop-token : goal.invariant-loop-token
invariant-loop-token l = ReadsOn l.largest l.text (split_whitespace_rest l.token-iterator) (vec_items l.numbers) (string_bytes l.word)
