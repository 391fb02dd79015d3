use Rattle.std.proofs.Common.{[], ◌∷◌}
use Rattle.formulas.proofs.Judged.{joined, alone, settled}
use Rattle.formulas.proofs.judging.judge_named.Goals as goal

pub returns-in-Always : goal.returns-in-Always
returns-in-Always c =
    let x = settled _ _ c.args.words.now c.throughout.result c.judge_by.result c.in-Always.is (alone c.in-Always.p) c.throughout.ensures c.judge_by.ensures in
    record { value = x.0; formula = x.1 }

pub returns-in-Never : goal.returns-in-Never
returns-in-Never c =
    let x = settled _ _ c.args.words.now c.throughout-in-Never.result c.judge_by-in-Never.result c.in-Never.is (alone c.in-Never.p) c.throughout-in-Never.ensures c.judge_by-in-Never.ensures in
    record { value = x.0; formula = x.1 }

pub returns-in-Eventually : goal.returns-in-Eventually
returns-in-Eventually c =
    let x = settled _ _ c.args.words.now c.counting.result c.judge_by-in-Eventually.result c.in-Eventually.is (alone c.in-Eventually.p) c.counting.ensures c.judge_by-in-Eventually.ensures in
    record { value = x.0; formula = x.1 }

pub returns-in-AtMostTwice : goal.returns-in-AtMostTwice
returns-in-AtMostTwice c =
    let x = settled _ _ c.args.words.now c.counting-in-AtMostTwice.result c.judge_by-in-AtMostTwice.result c.in-AtMostTwice.is (alone c.in-AtMostTwice.p) c.counting-in-AtMostTwice.ensures c.judge_by-in-AtMostTwice.ensures in
    record { value = x.0; formula = x.1 }

pub returns-in-Precedes : goal.returns-in-Precedes
returns-in-Precedes c =
    let x = settled _ _ c.args.words.now c.precedes.result c.judge_by-in-Precedes.result c.in-Precedes.is (joined (c.in-Precedes.p ∷ []) (c.in-Precedes.s ∷ [])) c.precedes.ensures c.judge_by-in-Precedes.ensures in
    record { value = x.0; formula = x.1 }

pub returns-in-PairPrecedes : goal.returns-in-PairPrecedes
returns-in-PairPrecedes c =
    let x = settled _ _ c.args.words.now c.precedes-in-PairPrecedes.result c.judge_by-in-PairPrecedes.result c.in-PairPrecedes.is (joined (c.in-PairPrecedes.p1 ∷ c.in-PairPrecedes.p2 ∷ []) (c.in-PairPrecedes.s ∷ [])) c.precedes-in-PairPrecedes.ensures c.judge_by-in-PairPrecedes.ensures in
    record { value = x.0; formula = x.1 }

pub returns-in-PrecedesPair : goal.returns-in-PrecedesPair
returns-in-PrecedesPair c =
    let x = settled _ _ c.args.words.now c.precedes-in-PrecedesPair.result c.judge_by-in-PrecedesPair.result c.in-PrecedesPair.is (joined (c.in-PrecedesPair.p ∷ []) (c.in-PrecedesPair.s1 ∷ c.in-PrecedesPair.s2 ∷ [])) c.precedes-in-PrecedesPair.ensures c.judge_by-in-PrecedesPair.ensures in
    record { value = x.0; formula = x.1 }

pub returns-in-Responds : goal.returns-in-Responds
returns-in-Responds c =
    let x = settled _ _ c.args.words.now c.responds.result c.judge_by-in-Responds.result c.in-Responds.is (joined (c.in-Responds.p ∷ []) (c.in-Responds.s ∷ [])) c.responds.ensures c.judge_by-in-Responds.ensures in
    record { value = x.0; formula = x.1 }

pub returns-in-PairResponds : goal.returns-in-PairResponds
returns-in-PairResponds c =
    let x = settled _ _ c.args.words.now c.responds-in-PairResponds.result c.judge_by-in-PairResponds.result c.in-PairResponds.is (joined (c.in-PairResponds.p ∷ []) (c.in-PairResponds.s1 ∷ c.in-PairResponds.s2 ∷ [])) c.responds-in-PairResponds.ensures c.judge_by-in-PairResponds.ensures in
    record { value = x.0; formula = x.1 }

pub returns-in-RespondsToPair : goal.returns-in-RespondsToPair
returns-in-RespondsToPair c =
    let x = settled _ _ c.args.words.now c.responds-in-RespondsToPair.result c.judge_by-in-RespondsToPair.result c.in-RespondsToPair.is (joined (c.in-RespondsToPair.p1 ∷ c.in-RespondsToPair.p2 ∷ []) (c.in-RespondsToPair.s ∷ [])) c.responds-in-RespondsToPair.ensures c.judge_by-in-RespondsToPair.ensures in
    record { value = x.0; formula = x.1 }
