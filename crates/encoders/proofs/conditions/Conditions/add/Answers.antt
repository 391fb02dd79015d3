use Rattle.std.proofs.Common.{◌∙◌, rules, arith}
use Rattle.encoders.specs.Held.{terms_of}
use Rattle.encoders.proofs.Adding.{list_with}
use Rattle.encoders.proofs.conditions.Conditions.add.Goals as goal

pub returns : goal.returns
returns g c =
    let with = list_with terms_of c.args.self.now.lists c.from-i.result c.args.condition.number c.index-self-i.result (c.from-i.ensures ∙ c.number.ensures) (omega arith) c.push.new.self c.args.term in
    search (rules, with)
