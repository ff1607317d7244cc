use Rattle.runs_export.proofs.decoded_times.Given as goal

-- of what the decodes before the last leave nothing is needed
abbrev pub invariant-loop : goal.invariant-loop
invariant-loop l = Unit {0}
