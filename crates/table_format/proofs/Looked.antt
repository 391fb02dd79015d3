-- From the first bad flag and the first bad entry to what checking says.
use Rattle.std.proofs.Common.{◌≡◌, ◌≢◌, ℕ, ◌+◌, ◌-◌, ◌*◌, ◌%◌, ◌^◌, ◌<◌, ◌≤◌, Bool, not, ltb, leb, List, length, get_or, take, drop, Some, None, sym, ap, add-zero, ◌∙◌, arith, length-drop, length-take, pow_mono}
use Rattle.std.specs.List.{IsSplitAt, prefix_len, position}
use Rattle.std.proofs.Math.Nat.{mod-eq_of_lt}
use Rattle.std.proofs.lemmas.Nat.{mul-le}
use Rattle.std.proofs.lemmas.Bool.Decides.{nat_tests}
use Rattle.std.proofs.lemmas.List.{get_or-drop, drop-drop, take_rest, take_all}
use Rattle.table_format.specs.declared.kind.Kind.{Kind}
use Rattle.table_format.specs.declared.kind.Kind.TheVariants.{Pattern, Scope}
use Rattle.table_format.specs.declared.fault.TableFault.TheVariants.{Length, Flag, Width, Entry}
use Rattle.table_format.specs.Layout.{most, target, states_of, width_of, size_of}
use Rattle.table_format.specs.Checked.{flag_fine, entry_fine, fine_flags, fine_entries, checked}

module _ (fine bad : ℕ → Bool) (test : (x : ℕ) → not (bad x) ≡ fine x) (xs : List ℕ) where
  same_len : prefix_len (λ x. not (bad x)) xs ≡ prefix_len fine xs
  same_len = λ i. prefix_len (λ x. test x i) xs

  found : (at : ℕ) → Some at ≡ position bad xs → (at ≡ prefix_len fine xs) × (prefix_len fine xs < length xs)
  found at e = let s = same_len in grind (arith, nat_tests)

  none : None ≡ position bad xs → length xs ≤ prefix_len fine xs
  none e = let s = same_len in grind (arith, nat_tests)

flag_test : (f : ℕ) → not (ltb 1 f) ≡ flag_fine f
flag_test f = grind (arith, nat_tests)

entry_test : (kind : Kind) (n e : ℕ) → not (leb n (target kind e)) ≡ entry_fine kind n e
entry_test kind n e = grind (arith, nat_tests)

most_small : (kind : Kind) → most kind ≤ 250
most_small Pattern = omega arith
most_small Scope = omega arith

-- a table whose number of states is fine, cut into that number, the flags and what comes after them
module _ (kind : Kind) (t flags after : List ℕ) (some : states_of t ≢ 0) (few : states_of t ≤ most kind) (long : 1 ≤ length t) (cut : IsSplitAt (take (length t - 1) (drop 1 t)) (states_of t) flags after) (more : 1 ≤ length after) where
  rest_is : take (length t - 1) (drop 1 t) ≡ drop 1 t
  rest_is = take_rest t 1

  flags_are : flags ≡ take (states_of t) (drop 1 t)
  flags_are = cut.1 ∙ ap (take (states_of t)) rest_is

  after_is : after ≡ drop (1 + states_of t) t
  after_is = cut.2 ∙ (ap (drop (states_of t)) rest_is ∙ drop-drop (states_of t) 1 t)

  width_is : get_or after 0 0 ≡ width_of t
  width_is = ap (λ (xs : List ℕ). get_or xs 0 0) after_is ∙ (get_or-drop (1 + states_of t) t 0 0 ∙ ap (λ (k : ℕ). get_or t k 0) (add-zero (1 + states_of t)))

  length_is : length t ≡ 1 + states_of t + length after
  length_is = omega (arith, cut.4, length-take (length t - 1) (drop 1 t), length-drop 1 t)

  pub flag_found : (at : ℕ) → Some at ≡ position (λ f. ltb 1 f) flags → Some (Flag (1 + at)) ≡ checked kind t
  flag_found at e =
      let f = found flag_fine (λ f. ltb 1 f) flag_test flags at e in
      let same : prefix_len flag_fine flags ≡ fine_flags t = ap (prefix_len flag_fine) flags_are in
      let bad : fine_flags t < states_of t = omega (arith, f.1, cut.3) in
      let at_is : at ≡ fine_flags t = f.0 ∙ same in
      let l = length_is in
      grind (arith, nat_tests)

  module _ (flags_fine : None ≡ position (λ f. ltb 1 f) flags) where
    fine_all : states_of t ≤ fine_flags t
    fine_all =
        let same : prefix_len flag_fine flags ≡ fine_flags t = ap (prefix_len flag_fine) flags_are in
        omega (arith, none flag_fine (λ f. ltb 1 f) flag_test flags flags_fine, cut.3)

    pub wide : 6 < get_or after 0 0 → Some (Width (1 + states_of t)) ≡ checked kind t
    wide h =
        let w : 6 < width_of t = rw width_is at h in
        let f = fine_all in
        let l = length_is in
        grind (arith, nat_tests)

    module _ (narrow : get_or after 0 0 ≤ 6) (rows : ℕ) (shifted : rows ≡ states_of t * 2 ^ get_or after 0 0 % 2 ^ 64) (entries : List ℕ) (entries_are : entries ≡ take (length after - 1) (drop 1 after)) where
      narrow_is : width_of t ≤ 6
      narrow_is = rw width_is at narrow

      rows_are : rows ≡ states_of t * size_of t
      rows_are =
          let most_is : most kind ≤ 250 = most_small kind in
          let small : states_of t * 2 ^ get_or after 0 0 ≤ 250 * 64 = mul-le (states_of t) (2 ^ get_or after 0 0) 250 64 (omega arith) (pow_mono narrow) in
          rw width_is at (shifted ∙ mod-eq_of_lt (omega arith))

      full_is : length t ≡ 2 + states_of t + length entries
      full_is = let e : length entries ≡ length after - 1 = ap length entries_are ∙ simp (length-take, length-drop) (omega arith) in omega (arith, length_is)

      pub wrong_length : length entries ≢ rows → Some Length ≡ checked kind t
      wrong_length h =
          let w : length entries ≢ states_of t * size_of t = rw rows_are at h in
          let f = fine_all in
          let l = length_is in
          let k = full_is in
          let n = narrow_is in
          grind (arith, nat_tests)

      module _ (exact : length entries ≡ rows) where
        exact_is : length entries ≡ states_of t * size_of t
        exact_is = exact ∙ rows_are

        entries_is : entries ≡ take (states_of t * size_of t) (drop (2 + states_of t) t)
        entries_is =
            let all : entries ≡ drop 1 after = entries_are ∙ take_rest after 1 in
            let e : drop 1 after ≡ drop (1 + states_of t + 1) t = ap (drop 1) after_is ∙ drop-drop 1 (1 + states_of t) t in
            let z : 1 + states_of t + 1 ≡ 2 + states_of t = omega arith in
            let rest : entries ≡ drop (2 + states_of t) t = rw z at (all ∙ e) in
            rest ∙ sym (take_all (states_of t * size_of t) (drop (2 + states_of t) t) (omega (arith, exact_is, ap length rest)))

        pub entry_found : (at : ℕ) → Some at ≡ position (λ e. leb (states_of t) (target kind e)) entries → Some (Entry (2 + states_of t + at)) ≡ checked kind t
        entry_found at e =
            let f = found (entry_fine kind (states_of t)) (λ e. leb (states_of t) (target kind e)) (entry_test kind (states_of t)) entries at e in
            let same : prefix_len (entry_fine kind (states_of t)) entries ≡ fine_entries kind t = ap (prefix_len (entry_fine kind (states_of t))) entries_is in
            let bad : fine_entries kind t < states_of t * size_of t = omega (arith, f.1, exact_is) in
            let at_is : at ≡ fine_entries kind t = f.0 ∙ same in
            let a = fine_all in
            let l = length_is in
            let k = full_is in
            let n = narrow_is in
            let x = exact_is in
            grind (arith, nat_tests)

        pub all_fine : None ≡ position (λ e. leb (states_of t) (target kind e)) entries → None ≡ checked kind t
        all_fine e =
            let same : prefix_len (entry_fine kind (states_of t)) entries ≡ fine_entries kind t = ap (prefix_len (entry_fine kind (states_of t))) entries_is in
            let fine : states_of t * size_of t ≤ fine_entries kind t = omega (arith, none (entry_fine kind (states_of t)) (λ e. leb (states_of t) (target kind e)) (entry_test kind (states_of t)) entries e, exact_is) in
            let a = fine_all in
            let l = length_is in
            let k = full_is in
            let n = narrow_is in
            let x = exact_is in
            grind (arith, nat_tests)
