-- Terms as values of a type, and the same terms as plain data.
use Rattle.std.proofs.Common.{◌≡◌, ℕ, ◌<◌, Bool, true, false, ◌||◌, leb, List, [], ◌∷◌, ◌++◌, map, get_or, set, Some, Ok, Err, Result, MatchResult, sym, refl, ap, ◌∙◌}
use Rattle.std.proofs.Math.ListN.{get_or-map}
use Rattle.std.proofs.lemmas.List.{map-set, map_push, length-map}
use Rattle.std.proofs.lemmas.Bool.{lt-ltb}
use Rattle.std.specs.Result.{result_err}
use Rattle.std.specs.List.{list_any}
use Rattle.rules.specs.declared.refusal.SettingRefusal.{SettingRefusal}
use Rattle.rules.specs.declared.refusal.SettingRefusal.TheVariants.{Full}
use Rattle.encoders.specs.declared.conditions.Conditions.{Conditions}
use Rattle.encoders.specs.Held.{lists_of}
use Rattle.encoders.specs.Holding.{number, word, full, with_term, term_refused}

module _ {T A : Type 0} (h : T → A) where
  some_plain : (f : A → Bool) (ts : List T) → list_any (λ t. f (h t)) ts ≡ list_any f (map h ts)
  some_plain f [] = refl
  some_plain f (t ∷ ts) = ap (λ b. f (h t) || b) (some_plain f ts)

  bits_plain : (f : A → Bool) (lists : List (List T)) → map (list_any (λ t. f (h t))) lists ≡ map (list_any f) (map (map h) lists)
  bits_plain f [] = refl
  bits_plain f (l ∷ lists) = ap (λ b. b ∷ map (list_any (λ t. f (h t))) lists) (some_plain f l) ∙ ap (λ bs. list_any f (map h l) ∷ bs) (bits_plain f lists)

  pub word_plain : (f : A → Bool) (lists : List (List T)) → word (λ t. f (h t)) lists ≡ word f (map (map h) lists)
  word_plain f lists = ap number (bits_plain f lists)

  full_plain : (lists : List (List T)) (i : ℕ) → full (get_or (map (map h) lists) i []) ≡ full (get_or lists i [])
  full_plain lists i = ap full (get_or-map (map h) lists i []) ∙ ap (λ n. leb 8 n) (length-map (get_or lists i []) h)

  with_plain : (lists : List (List T)) (i : ℕ) (t : T) → map (map h) (with_term i t lists) ≡ with_term i (h t) (map (map h) lists)
  with_plain lists i t =
      map-set (map h) lists i (get_or lists i [] ++ t ∷ [])
      ∙ ap (set (map (map h) lists) i) (map_push h (get_or lists i []) t ∙ ap (λ l. l ++ h t ∷ []) (sym (get_or-map (map h) lists i [])))

  -- adding the term t to condition n, which is i, where t is a as plain data: the conditions go from `old` to `new`
  module _ (old new : Conditions T) (n i : ℕ) (t : T) (a : A) (fair : Bool) (same : n ≡ i) (few : i < 16) (fine : fair ≡ true) (is : h t ≡ a) where
    -- what is answered is as the plain data has it
    pub answer_plain : (r : Result (Unit {0}) SettingRefusal) →
        MatchResult r (λ _. (full (get_or (lists_of old) n []) ≡ false) × (lists_of new ≡ with_term n t (lists_of old))) (λ e. (full (get_or (lists_of old) n []) ≡ true) × (e ≡ Full) × (new ≡ old)) →
        result_err r ≡ term_refused fair i (map (map h) (lists_of old))
    answer_plain (Ok _) gave = sym (rw (lt-ltb i 16 few, fine, full_plain (lists_of old) i, ← same, gave.0))
    answer_plain (Err e) gave = ap Some gave.1 ∙ sym (rw (lt-ltb i 16 few, fine, full_plain (lists_of old) i, ← same, gave.0))

    -- and so is what is held after it
    pub after_plain : (r : Result (Unit {0}) SettingRefusal) (Q R : Type 0) →
        MatchResult r (λ _. (full (get_or (lists_of old) n []) ≡ false) × (lists_of new ≡ with_term n t (lists_of old))) (λ e. (full (get_or (lists_of old) n []) ≡ true) × (e ≡ Full) × (new ≡ old)) →
        (map (map h) (lists_of new) ≡ with_term i a (map (map h) (lists_of old)) → Q) → (new ≡ old → R) →
        MatchResult r (λ _. Q) (λ _. R)
    after_plain (Ok _) Q R gave f g =
        f (ap (map (map h)) gave.1 ∙ with_plain (lists_of old) n t ∙ ap (λ k. with_term k (h t) (map (map h) (lists_of old))) same ∙ ap (λ x. with_term i x (map (map h) (lists_of old))) is)
    after_plain (Err _) Q R gave f g = g gave.2
