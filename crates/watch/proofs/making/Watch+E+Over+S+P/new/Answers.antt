use Rattle.std.proofs.Common.{ℕ, Bool, List, sym, refl, ap, ◌∙◌}
use Rattle.watch.proofs.making.Watch+E+Over+S+P.new.Goals as goal

pub returns-clause-after : goal.returns-clause-after
returns-clause-after g c =
    record { counted = refl; follows = λ l. ap (λ (m : List ℕ → Bool). m l) (c.new.ensures.fresh ∙ sym c.new.ensures.meaning) }
