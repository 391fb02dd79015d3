-- The composed bytes are a lawful pattern table, and what stands where in them.
use Rattle.std.proofs.Common.{◌≡◌, ℕ, zero, suc, ◌+◌, ◌-◌, ◌*◌, ◌/◌, ◌%◌, ◌^◌, ◌<◌, ◌≤◌, Bool, true, false, cond, eqb, List, [], ◌∷◌, ◌++◌, map, length, get_or, drop, sym, refl, ap, ◌∙◌, subst, suc-mul, zero-mul, arith, length-append}
use Rattle.std.specs.List.{range_with_len, flat_map}
use Rattle.std.proofs.lemmas.Bool.Decides.{nat_tests}
use Rattle.std.proofs.lemmas.List.{get_or_append_left, get_or-append_right, get_or_at, get_or-drop, drop_at, drop-drop}
use Rattle.std.proofs.lemmas.List.FromFn.{length-map-range_with_len, get_or-map-range_with_len}
use Rattle.std.proofs.lemmas.Nat.{div_below, mod_below, div-mul-add, mod-mul-add, pow_pos}
use Rattle.rules.specs.declared.mark.Mark.{Mark}
use Rattle.rules.specs.declared.mark.Mark.TheVariants.{Out, In, Last, Anew}
use Rattle.table_format.specs.declared.kind.Kind.TheVariants.{Pattern, Scope}
use Rattle.table_format.specs.Lawful.{Lawful}
use Rattle.table_format.specs.Layout.{target, states_of, width_of, size_of, flag_of, entry_of}
use Rattle.tables.specs.Runs.{mark_of, accepts_from}
use Rattle.table_format.proofs.Laws.{row_within}
use Rattle.composing.specs.declared.place.Place.{Place}
use Rattle.composing.specs.declared.place.Place.TheVariants.{Failed, Outside, Inside}
use Rattle.composing.specs.Composed.{place_number, place_at, Within, bit_of, place_flag, lands, leads, block_of, total_of, flag_byte, entry_byte, row_of, rows_of, composed}

-- rows of z bytes each
module _ (f : ℕ → List ℕ) (z : ℕ) (long : (i : ℕ) → length (f i) ≡ z) where
  length_joined : (b n : ℕ) → length (flat_map f (range_with_len b n)) ≡ n * z
  length_joined b zero = sym (zero-mul z)
  length_joined b (suc n) = length-append (f b) (flat_map f (range_with_len (b + 1) n)) ∙ omega (arith, long b, length_joined (b + 1) n, suc-mul n z)

  joined_at : (b n i a : ℕ) → i < n → a < z → get_or (flat_map f (range_with_len b n)) (i * z + a) 0 ≡ get_or (f (b + i)) a 0
  joined_at b zero i a h k = absurd (omega arith)
  joined_at b (suc n) zero a h k =
      let e : 0 * z + a ≡ a = omega (arith, zero-mul z) in
      let d : b + 0 ≡ b = omega arith in
      rw (e, d) (get_or_append_left (f b) (flat_map f (range_with_len (b + 1) n)) 0 a (omega (arith, long b)))
  joined_at b (suc n) (suc i) a h k =
      let e : suc i * z + a - z ≡ i * z + a = omega (arith, suc-mul i z) in
      let d : b + 1 + i ≡ b + suc i = omega arith in
      get_or-append_right (f b) (flat_map f (range_with_len (b + 1) n)) z (suc i * z + a) 0 (long b) (omega (arith, suc-mul i z))
      ∙ (ap (λ (x : ℕ). get_or (flat_map f (range_with_len (b + 1) n)) x 0) e ∙ (joined_at (b + 1) n i a (omega arith) k ∙ ap (λ (x : ℕ). get_or (f x) a 0) d))

-- numbers of places
number_below : (n m : ℕ) (x : Place) → Within n m x → place_number (n + 1) m x < m * (n + 1) + 1
number_below n m Failed w = omega arith
number_below n m (Outside i) w = omega (arith, row_within i m (n + 1) w)
number_below n m (Inside i q) w = omega (arith, row_within i m (n + 1) w.0, w.1)

place_within : (n m k : ℕ) → k ≤ m * (n + 1) → Within n m (place_at (n + 1) m k)
place_within n m k h =
    let mb : k % (n + 1) < n + 1 = mod_below k (n + 1) (omega arith) in
    let db : k < m * (n + 1) → k / (n + 1) < m = λ l. div_below k (n + 1) m (omega arith) l in
    grind (arith, nat_tests)

closing_within : (n m i : ℕ) (b : Bool) → i < m → Within n m (cond b (Outside i) Failed)
closing_within n m i true h = h
closing_within n m i false h = tt

lands_within : (p : List ℕ) (n m : ℕ) (mark : Mark) (i : ℕ) (fine : Bool) (on fresh : ℕ) → i < m → on < n → fresh < n → Within n m (lands p mark i fine on fresh)
lands_within p n m Out i fine on fresh hi ho hf = closing_within n m i fine hi
lands_within p n m In i fine on fresh hi ho hf = (hi, ho)
lands_within p n m Last i fine on fresh hi ho hf = closing_within n m i (flag_of p on) hi
lands_within p n m Anew i fine on fresh hi ho hf = (hi, hf)

bit_back : (b : Bool) → eqb (bit_of b) 1 ≡ b
bit_back true = refl
bit_back false = refl

bit_small : (b : Bool) → bit_of b ≤ 1
bit_small true = omega arith
bit_small false = omega arith

-- the place that a number stands for
at_number : (n m : ℕ) (x : Place) → Within n m x → place_at (n + 1) m (place_number (n + 1) m x) ≡ x
at_number n m Failed w = grind (arith, nat_tests)
at_number n m (Outside i) w =
    let r = row_within i m (n + 1) w in
    let z : i * (n + 1) + 0 ≡ i * (n + 1) = omega arith in
    let d : i * (n + 1) / (n + 1) ≡ i = rw z at (div-mul-add i (n + 1) 0 (omega arith)) in
    let e : i * (n + 1) % (n + 1) ≡ 0 = rw z at (mod-mul-add i (n + 1) 0 (omega arith)) in
    grind (arith, nat_tests)
at_number n m (Inside i q) w =
    let r = row_within i m (n + 1) w.0 in
    let z : i * (n + 1) + (1 + q) ≡ i * (n + 1) + 1 + q = omega arith in
    let d : (i * (n + 1) + 1 + q) / (n + 1) ≡ i = rw z at (div-mul-add i (n + 1) (1 + q) (omega (arith, w.1))) in
    let e : (i * (n + 1) + 1 + q) % (n + 1) ≡ 1 + q = rw z at (mod-mul-add i (n + 1) (1 + q) (omega (arith, w.1))) in
    let f : 1 + q - 1 ≡ q = omega arith in
    grind (arith, nat_tests)

-- the place after a list of words
abbrev pub place_after : List ℕ → List ℕ → Place → List ℕ → Place
place_after p s x [] = x
place_after p s x (w ∷ l) = place_after p s (leads p s (w % size_of p) x) l

module _ (p s : List ℕ) (lp : Lawful Pattern p) (ls : Lawful Scope s) (ws : width_of p ≡ width_of s) (few : total_of p s ≤ 250) where
  pub same_size : size_of p ≡ size_of s
  same_size = ap (λ (k : ℕ). 2 ^ k) ws

  leads_within : (a : ℕ) (x : Place) → a < size_of p → Within (states_of p) (states_of s) x → Within (states_of p) (states_of s) (leads p s a x)
  leads_within a Failed h w = tt
  leads_within a (Outside i) h w =
      let fresh = lp.entries 0 a lp.some_states h in
      lands_within p (states_of p) (states_of s) (mark_of (entry_of s i a)) (target Scope (entry_of s i a)) true (entry_of p 0 a) (entry_of p 0 a)
      (ls.entries i a w (subst (λ (z : ℕ). a < z) same_size h)) fresh fresh
  leads_within a (Inside i q) h w =
      lands_within p (states_of p) (states_of s) (mark_of (entry_of s i a)) (target Scope (entry_of s i a)) (flag_of p q) (entry_of p q a) (entry_of p 0 a)
      (ls.entries i a w.0 (subst (λ (z : ℕ). a < z) same_size h)) (lp.entries q a w.1 h) (lp.entries 0 a lp.some_states h)

  byte_below : (k a : ℕ) → k < total_of p s → a < size_of p → entry_byte p s k a < total_of p s
  byte_below k a h g = number_below (states_of p) (states_of s) _ (leads_within a _ g (place_within (states_of p) (states_of s) k (omega arith)))

  length_flags : length (map (flag_byte p s) (range_with_len 0 (total_of p s))) ≡ total_of p s
  length_flags = length-map-range_with_len (flag_byte p s) 0 (total_of p s)

  length_rows : length (rows_of p s (total_of p s)) ≡ total_of p s * size_of p
  length_rows = length_joined (row_of p s) (size_of p) (λ i. length-map-range_with_len (entry_byte p s i) 0 (size_of p)) 0 (total_of p s)

  pub length_composed : length (composed p s) ≡ 2 + total_of p s + total_of p s * size_of p
  length_composed =
      let l = length-append (map (flag_byte p s) (range_with_len 0 (total_of p s))) (width_of p ∷ rows_of p s (total_of p s)) in
      omega (arith, l, length_flags, length_rows)

  width_composed : width_of (composed p s) ≡ width_of p
  width_composed =
      let one : 1 + total_of p s ≡ suc (total_of p s) = omega arith in
      rw one (get_or_at (map (flag_byte p s) (range_with_len 0 (total_of p s))) (width_of p) (rows_of p s (total_of p s)) 0 (total_of p s) length_flags)

  size_composed : size_of (composed p s) ≡ size_of p
  size_composed = ap (λ (k : ℕ). 2 ^ k) width_composed

  rows_composed : drop (2 + total_of p s) (composed p s) ≡ rows_of p s (total_of p s)
  rows_composed =
      let two : 2 + total_of p s ≡ suc (total_of p s + 1) = omega arith in
      let X = map (flag_byte p s) (range_with_len 0 (total_of p s)) ++ (width_of p ∷ rows_of p s (total_of p s)) in
      rw two (sym (drop-drop 1 (total_of p s) X) ∙ ap (drop 1) (drop_at (map (flag_byte p s) (range_with_len 0 (total_of p s))) (width_of p ∷ rows_of p s (total_of p s)) (total_of p s) length_flags))

  -- what stands where
  flag_at : (k : ℕ) → k < total_of p s → get_or (composed p s) (1 + k) 0 ≡ flag_byte p s k
  flag_at k h =
      let one : 1 + k ≡ suc k = omega arith in
      let fl = map (flag_byte p s) (range_with_len 0 (total_of p s)) in
      rw one (get_or_append_left fl (width_of p ∷ rows_of p s (total_of p s)) 0 k (omega (arith, length_flags)) ∙ get_or-map-range_with_len (flag_byte p s) 0 (total_of p s) k k 0 h (omega arith))

  flag_composed : (k : ℕ) → k < total_of p s → flag_of (composed p s) k ≡ place_flag p s (place_at (block_of p) (states_of s) k)
  flag_composed k h = ap (λ (x : ℕ). eqb x 1) (flag_at k h) ∙ bit_back (place_flag p s (place_at (block_of p) (states_of s) k))

  entry_composed : (k a : ℕ) → k < total_of p s → a < size_of p → entry_of (composed p s) k a ≡ entry_byte p s k a
  entry_composed k a h g =
      let grouped : 2 + total_of p s + k * size_of p + a ≡ 2 + total_of p s + (k * size_of p + a) = omega arith in
      let z : k ≡ 0 + k = omega arith in
      ap (λ (y : ℕ). get_or (composed p s) (2 + total_of p s + k * y + a) 0) size_composed
      ∙ (ap (λ (x : ℕ). get_or (composed p s) x 0) grouped
      ∙ (sym (get_or-drop (2 + total_of p s) (composed p s) (k * size_of p + a) 0)
      ∙ (ap (λ (xs : List ℕ). get_or xs (k * size_of p + a) 0) rows_composed
      ∙ (joined_at (row_of p s) (size_of p) (λ j. length-map-range_with_len (entry_byte p s j) 0 (size_of p)) 0 (total_of p s) k a h g
      ∙ (ap (λ (j : ℕ). get_or (row_of p s j) a 0) (sym z) ∙ get_or-map-range_with_len (entry_byte p s k) 0 (size_of p) a a 0 g (omega arith))))))

  pub composed_lawful : Lawful Pattern (composed p s)
  composed_lawful =
      record {
        some_states = omega arith;
        few_states = few;
        flags = λ k h. subst (λ (x : ℕ). x ≤ 1) (sym (flag_at k h)) (bit_small (place_flag p s (place_at (block_of p) (states_of s) k)));
        narrow = subst (λ (x : ℕ). x ≤ 6) (sym width_composed) lp.narrow;
        exact = length_composed ∙ ap (λ (z : ℕ). 2 + total_of p s + total_of p s * z) (sym size_composed);
        entries = λ k a h g.
            let small : a < size_of p = subst (λ (z : ℕ). a < z) size_composed g in
            subst (λ (x : ℕ). x < total_of p s) (sym (entry_composed k a h small)) (byte_below k a h small);
      }

  -- the composed table's state is the number of the place, and its runs are those of the places
  pub runs_composed : (l : List ℕ) (x : Place) → Within (states_of p) (states_of s) x → accepts_from (composed p s) (place_number (block_of p) (states_of s) x) l ≡ place_flag p s (place_after p s x l)
  runs_composed [] x w =
      flag_composed (place_number (block_of p) (states_of s) x) (number_below (states_of p) (states_of s) x w) ∙ ap (place_flag p s) (at_number (states_of p) (states_of s) x w)
  runs_composed (u ∷ l) x w =
      let a = u % size_of p in
      let small : u % size_of p < size_of p = mod_below u (size_of p) (pow_pos (width_of p)) in
      let here : entry_of (composed p s) (place_number (block_of p) (states_of s) x) (u % size_of (composed p s)) ≡ place_number (block_of p) (states_of s) (leads p s a x) =
      ap (λ (z : ℕ). entry_of (composed p s) (place_number (block_of p) (states_of s) x) (u % z)) size_composed
      ∙ (entry_composed (place_number (block_of p) (states_of s) x) a (number_below (states_of p) (states_of s) x w) small
      ∙ ap (λ (y : Place). place_number (block_of p) (states_of s) (leads p s a y)) (at_number (states_of p) (states_of s) x w)) in
      ap (λ (i : ℕ). accepts_from (composed p s) i l) here ∙ runs_composed l (leads p s a x) (leads_within a x small w)
