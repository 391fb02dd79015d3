use Rattle.std.proofs.Common.{◌≡◌, true, sym, refl, ap, ◌∙◌}
use Rattle.std.proofs.lemmas.Bool.{and_from, eq-eqb}
use Rattle.encoders.specs.Contact.{contact_codes, contact_fair}
use Rattle.encoders.specs.Held.{contact_term}
use Rattle.encoders.proofs.Plain.{answer_plain, after_plain}
use Rattle.encoders.proofs.contacts.Contacts.add_term.Goals as goal

fair : (c : goal.After-add) → contact_fair c.args.self.now.contacts.bits c.args.care c.args.want ≡ true
fair c = and_from _ _ (sym c.covers.ensures ∙ c.if-not-covers.false) (eq-eqb _ _ c.in_ok-term.ensures.0)

same : (c : goal.After-add) → contact_term c.in_ok-term.term ≡ (c.args.care, c.args.want)
same c = let t = c.in_ok-term.ensures in λ j. (t.1 j, t.2 j)

pub returns : goal.returns
returns c =
    let k = c.in_ok-condition.ensures in
    record {
      result = answer_plain contact_term c.args.self.now.conditions c.add.new.self _ _ c.in_ok-term.term _ _ k.1 k.0 (fair c) (same c) c.add.result c.add.ensures;
      after =
          after_plain contact_term c.args.self.now.conditions c.add.new.self _ _ c.in_ok-term.term _ _ k.1 k.0 (fair c) (same c) c.add.result _ _ c.add.ensures
          (λ e. (refl, e, ap (contact_codes c.args.self.now.contacts.bits) e, refl))
          (λ e j. record { contacts = c.args.self.now.contacts; conditions = e j });
    }
