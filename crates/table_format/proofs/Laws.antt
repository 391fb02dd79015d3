-- Checking succeeds exactly on lawful tables, and a fault says what is wrong.
use Rattle.std.proofs.Common.{◌≡◌, ℕ, ◌+◌, ◌-◌, ◌*◌, ◌/◌, ◌%◌, ◌<◌, ◌≤◌, true, false, ltb, List, length, get_or, take, drop, is_some, is_ok, IfErr, Some, Ok, Err, Decides, Result, sym, refl, ap, ◌∙◌, mul-le-mul_right, suc-mul, arith, length-drop, length-take}
use Rattle.std.specs.Result.{result_err}
use Rattle.std.proofs.lemmas.Nat.{pow_pos, div-add-mod', div_below, mod_below}
use Rattle.std.proofs.lemmas.List.{get_or-drop, get_or-take}
use Rattle.std.proofs.lemmas.List.Sums.{prefix_len_is, prefix_len_passes, prefix_len_stops}
use Rattle.std.proofs.lemmas.Bool.{ltb-true, ltb-false, lt-ltb, false≢true}
use Rattle.std.proofs.lemmas.Bool.Decides.{nat_tests}
use Rattle.table_format.specs.declared.kind.Kind.{Kind}
use Rattle.table_format.specs.declared.fault.TableFault.{TableFault}
use Rattle.table_format.specs.declared.fault.TableFault.TheVariants.{Length, States, Flag, Width, Entry}
use Rattle.table_format.specs.Layout.{most, target, states_of, width_of, size_of, entry_of, row_start}
use Rattle.table_format.specs.Checked.{flag_fine, entry_fine, fine_flags, fine_entries, full_length, checked}
use Rattle.table_format.specs.Lawful.{Lawful, Blames}

pub row_within : (s n z : ℕ) → s < n → s * z + z ≤ n * z
row_within s n z h = omega (arith, mul-le-mul_right z h, suc-mul s z)

-- what the checks found, in their order
pub record Passed (kind : Kind) (t : List ℕ) : Type 0 where
  pub some : 1 ≤ states_of t
  pub few : states_of t ≤ most kind
  pub head : 2 + states_of t ≤ length t
  pub flags : states_of t ≤ fine_flags t
  pub narrow : width_of t ≤ 6
  pub exact : length t ≡ full_length t
  pub entries : states_of t * size_of t ≤ fine_entries kind t

pub passed : (kind : Kind) (t : List ℕ) → is_some (checked kind t) ≡ false → Passed kind t
passed kind t e = record { some = grind (arith, nat_tests); few = grind (arith, nat_tests); head = grind (arith, nat_tests); flags = grind (arith, nat_tests); narrow = grind (arith, nat_tests); exact = grind (arith, nat_tests); entries = grind (arith, nat_tests) }

flag_at : (t : List ℕ) (k : ℕ) → k < states_of t → get_or (take (states_of t) (drop 1 t)) k 0 ≡ get_or t (1 + k) 0
flag_at t k h = get_or-take (states_of t) (drop 1 t) k 0 h ∙ get_or-drop 1 t k 0

abbrev entries_of : List ℕ → List ℕ
entries_of t = take (states_of t * size_of t) (drop (2 + states_of t) t)

entry_at : (t : List ℕ) (k : ℕ) → k < states_of t * size_of t → get_or (entries_of t) k 0 ≡ get_or t (2 + states_of t + k) 0
entry_at t k h = get_or-take (states_of t * size_of t) (drop (2 + states_of t) t) k 0 h ∙ get_or-drop (2 + states_of t) t k 0

-- flags and entries up to the first bad one
flag_fine_is : (t : List ℕ) (k : ℕ) → k < states_of t → k < fine_flags t → get_or t (1 + k) 0 ≤ 1
flag_fine_is t k g h =
    let e : ltb (get_or (take (states_of t) (drop 1 t)) k 0) 2 ≡ true = prefix_len_passes flag_fine (take (states_of t) (drop 1 t)) k 0 h in
    let f = ltb-true _ _ (rw (flag_at t k g) at e) in
    omega arith

entry_fine_is : (kind : Kind) (t : List ℕ) (k : ℕ) → k < states_of t * size_of t → k < fine_entries kind t → target kind (get_or t (2 + states_of t + k) 0) < states_of t
entry_fine_is kind t k g h =
    let e : ltb (target kind (get_or (entries_of t) k 0)) (states_of t) ≡ true = prefix_len_passes (entry_fine kind (states_of t)) (entries_of t) k 0 h in
    ltb-true _ _ (rw (entry_at t k g) at e)

pub lawful : (kind : Kind) (t : List ℕ) → is_some (checked kind t) ≡ false → Lawful kind t
lawful kind t e =
    let p = passed kind t e in
    record {
      some_states = p.some;
      few_states = p.few;
      flags = λ s h. flag_fine_is t s h (omega arith);
      narrow = p.narrow;
      exact = p.exact;
      entries = λ s a hs ha.
          let w = row_within s (states_of t) (size_of t) hs in
          let z : row_start t s + a ≡ 2 + states_of t + (s * size_of t + a) = omega arith in
          rw z (entry_fine_is kind t (s * size_of t + a) (omega arith) (omega arith));
    }

head_long : (kind : Kind) (t : List ℕ) → Lawful kind t → 2 + states_of t ≤ length t
head_long kind t p = omega (arith, p.exact)

all_flags : (kind : Kind) (t : List ℕ) → Lawful kind t → fine_flags t ≡ states_of t
all_flags kind t p =
    let flags = take (states_of t) (drop 1 t) in
    let n : length flags ≡ states_of t = simp (length-take, length-drop) (omega (arith, p.exact)) in
    prefix_len_is flag_fine flags (states_of t) 0 (omega arith)
    (λ k g. rw (flag_at t k g) (lt-ltb _ _ (omega (arith, p.flags k g)))) (λ h. absurd (omega arith))

all_entries : (kind : Kind) (t : List ℕ) → Lawful kind t → fine_entries kind t ≡ states_of t * size_of t
all_entries kind t p =
    let n = states_of t in
    let z = size_of t in
    let entries = entries_of t in
    let len : length entries ≡ n * z = simp (length-take, length-drop) (omega (arith, p.exact)) in
    let pos = pow_pos (width_of t) in
    prefix_len_is (entry_fine kind n) entries (n * z) 0 (omega arith)
    (λ k below.
    let q = k / z in
    let r = k % z in
    let whole : q * z + r ≡ k = div-add-mod' k z in
    let here : target kind (entry_of t q r) < n = p.entries q r (div_below k z n pos below) (mod_below k z pos) in
    let same : row_start t q + r ≡ 2 + n + k = omega arith in
    let there : target kind (get_or t (2 + n + k) 0) < n = rw same at here in
    rw (entry_at t k below) (lt-ltb _ _ there)) (λ h. absurd (omega arith))

pub checked_lawful : (kind : Kind) (t : List ℕ) → Lawful kind t → is_some (checked kind t) ≡ false
checked_lawful kind t p =
    let some = p.some_states in
    let few = p.few_states in
    let narrow = p.narrow in
    let exact = p.exact in
    let flags = all_flags kind t p in
    let entries = all_entries kind t p in
    grind (arith, nat_tests)

-- what each fault says
module _ (kind : Kind) (t : List ℕ) where
  blame_flag : 2 + states_of t ≤ length t → fine_flags t < states_of t → Blames kind t (Flag (1 + fine_flags t))
  blame_flag long h =
      let flags = take (states_of t) (drop 1 t) in
      let n : length flags ≡ states_of t = simp (length-take, length-drop) (omega arith) in
      let stop : ltb (get_or flags (fine_flags t) 0) 2 ≡ false = prefix_len_stops flag_fine flags 0 (omega arith) in
      let bad = ltb-false _ _ (rw (flag_at t (fine_flags t) h) at stop) in
      (omega arith, omega arith, omega arith, λ k a b. let z : 1 + (k - 1) ≡ k = omega arith in rw z at (flag_fine_is t (k - 1) (omega arith) (omega arith)))

  blame_entry : length t ≡ full_length t → fine_entries kind t < states_of t * size_of t → Blames kind t (Entry (2 + states_of t + fine_entries kind t))
  blame_entry exact h =
      let n = states_of t in
      let entries = entries_of t in
      let len : length entries ≡ n * size_of t = simp (length-take, length-drop) (omega arith) in
      let stop : ltb (target kind (get_or entries (fine_entries kind t) 0)) n ≡ false = prefix_len_stops (entry_fine kind n) entries 0 (omega arith) in
      let bad = ltb-false _ _ (rw (entry_at t (fine_entries kind t) h) at stop) in
      (omega arith, omega arith, bad, λ k a b. let z : 2 + n + (k - (2 + n)) ≡ k = omega arith in rw z at (entry_fine_is kind t (k - (2 + n)) (omega arith) (omega arith)))

  pub blame : (f : TableFault) → checked kind t ≡ Some f → Blames kind t f
  blame Length e = λ exact. grind (arith, nat_tests)
  blame States e = λ fine. grind (arith, nat_tests)
  blame (Flag p) e =
      let long : 2 + states_of t ≤ length t = grind (arith, nat_tests) in
      let bad : fine_flags t < states_of t = grind (arith, nat_tests) in
      let at : p ≡ 1 + fine_flags t = grind (arith, nat_tests) in
      rw at (blame_flag long bad)
  blame (Width p) e =
      let at : p ≡ 1 + states_of t = grind (arith, nat_tests) in
      let wide : 6 < width_of t = grind (arith, nat_tests) in
      rw at (omega arith, wide)
  blame (Entry p) e =
      let exact : length t ≡ full_length t = grind (arith, nat_tests) in
      let bad : fine_entries kind t < states_of t * size_of t = grind (arith, nat_tests) in
      let at : p ≡ 2 + states_of t + fine_entries kind t = grind (arith, nat_tests) in
      rw at (blame_entry exact bad)

  -- the same of what checking returns
  pub decided : (r : Result Unit TableFault) → result_err r ≡ checked kind t → Decides (is_ok r) (Lawful kind t)
  decided (Ok _) e = (λ _. lawful kind t (ap is_some (sym e)), λ _. refl)
  decided (Err f) e = (λ z. absurd (false≢true z), λ p. sym (ap is_some e ∙ checked_lawful kind t p))

  pub blamed : (r : Result Unit TableFault) → result_err r ≡ checked kind t → IfErr r (Blames kind t)
  blamed (Ok _) e = tt
  blamed (Err f) e = blame f (sym e)
