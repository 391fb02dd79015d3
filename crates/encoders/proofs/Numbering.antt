-- The number that a list of bits makes.
use Rattle.std.proofs.Common.{◌≡◌, ℕ, ◌+◌, ◌*◌, ◌^◌, ◌<◌, ◌≤◌, Bool, true, false, cond, List, [], ◌∷◌, ◌++◌, map, length, sym, refl, ap, ◌∙◌, pow-suc, arith, pow_mono, length-append, append_assoc, append-nil}
use mir.Val.{bool_byte}
use Rattle.std.specs.List.{push}
use Rattle.std.proofs.lemmas.List.{length-map}
use Rattle.encoders.specs.Holding.{number}

bit_small : (b : Bool) → cond b 1 0 ≤ 1
bit_small true = omega arith
bit_small false = omega arith

byte_bit : (b : Bool) → bool_byte b ≡ cond b 1 0
byte_bit true = refl
byte_bit false = refl

pub byte_small : (b : Bool) → bool_byte b ≤ 1
byte_small true = omega arith
byte_small false = omega arith

-- n bits make a number below 2^n
pub number_below : (bs : List Bool) → number bs < 2 ^ length bs
number_below [] = omega arith
number_below (b ∷ bs) = rw pow-suc (omega (arith, number_below bs, bit_small b))

-- the items behind those that are left make the bits
abbrev pub MadeBehind : {X Y : Type 0} → (Y → Bool) → (X → Y) → List X → List X → ℕ → Type 0
MadeBehind {X = X} f g all left bits = (behind : List X) × (all ≡ left ++ behind) × (bits ≡ number (map f (map g behind)))

-- a loop that goes over all items from behind
module _ {X Y : Type 0} (f : Y → Bool) (g : X → Y) (all : List X) where
  pub none_behind : (left : List X) → left ≡ all → MadeBehind f g all left 0
  none_behind left e = ([], sym e ∙ sym (append-nil left), refl)

  pub room_behind : (left rest : List X) (x : X) (bits : ℕ) → length all ≡ 16 → left ≡ push rest x → MadeBehind f g all left bits → bits < 32768
  room_behind left rest x bits n e (behind, a, is) =
      let m : length left ≡ length rest + 1 = ap length e ∙ length-append rest (x ∷ []) in
      let k : length behind ≤ 15 = omega (arith, ap length a, length-append left behind) in
      let p : 2 ^ length behind ≤ 2 ^ 15 = pow_mono k in
      omega (arith, number_below (map f (map g behind)), ap (λ n. 2 ^ n) (length-map (map g behind) f ∙ length-map behind g))

  pub more_behind : (left rest : List X) (x : X) (bits v : ℕ) (b : Bool) → left ≡ push rest x → b ≡ f (g x) → v ≡ bool_byte b → MadeBehind f g all left bits → MadeBehind f g all rest (2 * bits + v)
  more_behind left rest x bits v b e fits is (behind, a, made) = (
    x ∷ behind,
    a ∙ ap (λ l. l ++ behind) e ∙ append_assoc rest (x ∷ []) behind,
    omega (arith, made, is, byte_bit b, ap {B = ℕ} (λ c. cond c 1 0) fits),
  )

  pub all_behind : (left : List X) (bits : ℕ) → length left ≡ 0 → MadeBehind f g all left bits → bits ≡ number (map f (map g all))
  all_behind [] bits n (behind, a, made) = made ∙ ap (λ l. number (map f (map g l))) (sym a)
  all_behind (x ∷ left) bits n h = absurd (omega arith)
