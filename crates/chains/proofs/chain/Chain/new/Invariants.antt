use Rattle.std.proofs.Common.{◌≡◌, take, drop}
use Rattle.rules.specs.Few.{items_of}
use Rattle.chains.specs.Chains.{numbered}
use Rattle.chains.specs.Held.{numbers_of}
use Rattle.chains.proofs.chain.Chain.new.Given as goal

-- the conditions have the numbers so far, and the rest decides whether all are numbers of conditions
abbrev pub invariant-loop-number : goal.invariant-loop-number
invariant-loop-number l = record {
  copied : numbers_of (items_of l.conditions) ≡ take l.number-index l.numbers;
  rest : numbered (drop l.number-index l.numbers) ≡ numbered l.numbers;
}
