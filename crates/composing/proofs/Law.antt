-- THE COMPOSITION LAW
use Rattle.std.proofs.Common.{◌≡◌, ℕ, ◌*◌, ◌<◌, ◌≤◌, Bool, true, false, cond, not, ◌&&◌, eqb, ltb, List, length, is_some, is_ok, IfOk, Some, None, Ok, Err, Decides, Option, Result, sym, refl, ap, ◌∙◌, zero-mul, arith}
use Rattle.std.proofs.lemmas.Bool.Decides.{nat_tests, Decides-and, Decides-like, Decides-eqb, Decides-not, Decides-ltb, Decides-at}
use Rattle.table_format.specs.declared.fault.TableFault.{TableFault}
use Rattle.table_format.specs.declared.kind.Kind.{Kind}
use Rattle.table_format.specs.declared.kind.Kind.TheVariants.{Pattern as PatternKind, Scope as ScopeKind}
use Rattle.table_format.specs.Checked.{checked}
use Rattle.table_format.specs.Lawful.{Lawful}
use Rattle.table_format.specs.Layout.{width_of, states_of}
use Rattle.tables.specs.Runs.{accepts, marks, says}
use Rattle.table_format.proofs.Laws.{lawful, checked_lawful}
use Rattle.layer.proofs.Laws.{judged_is}
use Rattle.layer.proofs.Places.{decided}
use Rattle.composing.specs.declared.fault.ComposeFault.{ComposeFault}
use Rattle.composing.specs.declared.fault.ComposeFault.TheVariants.{Pattern, Scope, Widths, States, Room}
use Rattle.composing.specs.declared.place.Place.TheVariants.{Outside}
use Rattle.composing.specs.Composed.{block_of, total_of, composed, composed_length}
use Rattle.composing.specs.Composing.{fault_or, composing, Composable, Composes}
use Rattle.composing.proofs.Lawful.{same_size, length_composed, composed_lawful, runs_composed}
use Rattle.composing.proofs.Judging.{alike}

lawful_is : (kind : Kind) (t : List ℕ) → Decides (not (is_some (checked kind t))) (Lawful kind t)
lawful_is kind t =
    (λ h. lawful kind t (grind (arith, nat_tests)), λ l. ap not (checked_lawful kind t l))

le_is : (a b : ℕ) → Decides (not (ltb b a)) (a ≤ b)
le_is a b = Decides-like _ (λ h. omega arith) (λ h g. omega arith) (Decides-not _ (Decides-ltb b a))

-- it succeeds when nothing is wrong
ok_when : (x y : Option TableFault) (a b c : Bool) (n : ℕ)
    → is_ok (fault_or Pattern x (fault_or Scope y (cond (not a) (Err Widths) (cond b (Err States) (cond c (Err Room) (Ok n))))))
    ≡ (not (is_some x) && (not (is_some y) && (a && (not b && not c))))
ok_when (Some f) y a b c n = refl
ok_when None (Some f) a b c n = refl
ok_when None None false b c n = refl
ok_when None None true true c n = refl
ok_when None None true false true n = refl
ok_when None None true false false n = refl

-- what a success tells
ok_then : (a b : Option TableFault) (x y z : Bool) (m n : ℕ) → Ok n ≡ fault_or Pattern a (fault_or Scope b (cond x (Err Widths) (cond y (Err States) (cond z (Err Room) (Ok m))))) → n ≡ m
ok_then (Some f) b x y z m n e = cc
ok_then None (Some f) x y z m n e = cc
ok_then None None true y z m n e = cc
ok_then None None false true z m n e = cc
ok_then None None false false true m n e = cc
ok_then None None false false false m n e = cc

module _ (p s : List ℕ) (room : ℕ) where
  composable : Decides (is_ok (composing p s room)) (Composable p s room)
  composable =
      Decides-at _ _ (ok_when (checked PatternKind p) (checked ScopeKind s) (eqb (width_of p) (width_of s)) (ltb 250 (total_of p s)) (ltb room (composed_length p s)) (composed_length p s))
      (Decides-like _
      (λ h. record { pattern = h.0; scope = h.1.0; widths = h.1.1.0; few_states = h.1.1.1.0; fits = h.1.1.1.1 })
      (λ c. (c.pattern, (c.scope, (c.widths, (c.few_states, c.fits)))))
      (Decides-and _ _ (lawful_is PatternKind p)
      (Decides-and _ _ (lawful_is ScopeKind s)
      (Decides-and _ _ (Decides-eqb (width_of p) (width_of s))
      (Decides-and _ _ (le_is (total_of p s) 250) (le_is (composed_length p s) room))))))

  composes : Composable p s room → Composes p s
  composes c =
      record {
        lawful = composed_lawful p s c.pattern c.scope c.widths c.few_states;
        judges = λ l.
            let z : 0 * block_of p ≡ 0 = zero-mul (block_of p) in
            let first : 0 < states_of s = c.scope.some_states in
            let run = rw z at (runs_composed p s c.pattern c.scope c.widths c.few_states l (Outside 0) first) in
            decided (accepts (composed p s) l) (marks s) (says s) (accepts p) l
            (run ∙ (alike p s (same_size p s c.pattern c.scope c.widths c.few_states) l 0 None ∙ judged_is (marks s) (says s) (accepts p) l));
      }

  -- the same of what composing returns
  pub result_decided : (r : Result ℕ ComposeFault) → r ≡ composing p s room → Decides (is_ok r) (Composable p s room)
  result_decided r e = Decides-at _ _ (ap is_ok e) composable

  pub result_composes : (r : Result ℕ ComposeFault) → r ≡ composing p s room → IfOk r (λ _. Composes p s)
  result_composes (Ok n) e = composes ((result_decided (Ok n) e).0 refl)
  result_composes (Err f) e = tt

  pub result_long : (r : Result ℕ ComposeFault) → r ≡ composing p s room → IfOk r (λ n. n ≡ length (composed p s))
  result_long (Ok n) e =
      let c = (result_decided (Ok n) e).0 refl in
      ok_then (checked PatternKind p) (checked ScopeKind s) (not (eqb (width_of p) (width_of s))) (ltb 250 (total_of p s)) (ltb room (composed_length p s)) (composed_length p s) n e
      ∙ sym (length_composed p s c.pattern c.scope c.widths c.few_states)
  result_long (Err f) e = tt
