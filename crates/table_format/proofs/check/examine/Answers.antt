use Rattle.std.proofs.Common.{refl, arith}
use Rattle.table_format.proofs.Looked.{flag_found, wide, wrong_length, entry_found, all_fine}
use Rattle.table_format.proofs.check.examine.Goals as goal

pub returns-in-Some : goal.returns-in-Some
returns-in-Some c =
    let x = c.in-Some-default-len1-up in
    flag_found c.args.kind c.args.bytes.now x.flags.now x.field-0-1.now c.if-n-eq0.false (omega arith) c.in-len1-up.len_at_least x.ensures.cases x.len_at_least
    c.in-Some.at c.in-Some.ensures

pub returns-then-width-gt-WIDEST : goal.returns-then-width-gt-WIDEST
returns-then-width-gt-WIDEST c =
    let x = c.in-Some-default-len1-up in
    wide c.args.kind c.args.bytes.now x.flags.now x.field-0-1.now c.if-n-eq0.false (omega arith) c.in-len1-up.len_at_least x.ensures.cases x.len_at_least
    c.in_default-first_bad_flag.ensures c.if-width-gt-WIDEST.true

pub returns-then-entries-rows : goal.returns-then-entries-rows
returns-then-entries-rows c =
    let x = c.in-Some-default-len1-up in
    wrong_length c.args.kind c.args.bytes.now x.flags.now x.field-0-1.now c.if-n-eq0.false (omega arith) c.in-len1-up.len_at_least x.ensures.cases x.len_at_least
    c.in_default-first_bad_flag.ensures c.if-width-gt-WIDEST.false _ refl _ refl (λ e. omega (arith, c.if-entries-rows.true, e))

pub returns-in-Some-first_bad_entry : goal.returns-in-Some-first_bad_entry
returns-in-Some-first_bad_entry c =
    let x = c.in-Some-default-len1-up in
    entry_found c.args.kind c.args.bytes.now x.flags.now x.field-0-1.now c.if-n-eq0.false (omega arith) c.in-len1-up.len_at_least x.ensures.cases x.len_at_least
    c.in_default-first_bad_flag.ensures c.if-width-gt-WIDEST.false _ refl _ refl (omega (arith, c.if-entries-rows.false)) c.in-Some-first_bad_entry.at c.in-Some-first_bad_entry.ensures

pub returns-in-None : goal.returns-in-None
returns-in-None c =
    let x = c.in-Some-default-len1-up in
    all_fine c.args.kind c.args.bytes.now x.flags.now x.field-0-1.now c.if-n-eq0.false (omega arith) c.in-len1-up.len_at_least x.ensures.cases x.len_at_least
    c.in_default-first_bad_flag.ensures c.if-width-gt-WIDEST.false _ refl _ refl (omega (arith, c.if-entries-rows.false)) c.in-None.ensures
