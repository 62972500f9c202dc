-- Digests: at the beginning, after more bytes, and at the end.
use Rattle.std.proofs.Common.{◌≡◌, ℕ, ◌-◌, ◌*◌, ◌%◌, ◌^◌, ◌<◌, List, [], ◌++◌, Bool, true, false, refl, sym, ap, ap₂, subst, subst₂, ◌∙◌, mod-lt, pow_pos, lt_of_le_of_lt, bit_xor}
use Rattle.std.proofs.Math.Nat.{div-le_self}
use lib.Bits.{xor_lt}
use Rattle.crc.specs.Crc.{Parameters, in_order, IsCrc, IsValid}
use Rattle.crc.specs.Register.{Holds, read}
use Rattle.crc.specs.Digest.{Progress, Took}
use Rattle.crc.proofs.RegisterLemmas.{in_order_below}
use Rattle.crc.proofs.CrcLemmas.{holds_none, reads}

-- A register in order has as many bits as before.
pub started_below : (n b l x r : ℕ) (refin : Bool) → b ≡ n → l ≡ x % 2 ^ b → r ≡ in_order refin b l → r < 2 ^ n
started_below n b l x r refin b_is l_is r_is =
    let below : l < 2 ^ b = subst (λ y. y < 2 ^ b) (sym l_is) (mod-lt x (pow_pos b)) in
    subst₂ (λ y z. y < 2 ^ z) (sym r_is) b_is (in_order_below refin b l below)

-- A digest that has taken nothing: its register has `init`, in order.
pub started : (n : ℕ) (p q : Parameters) → p ≡ q → IsValid n p → (initial : ℕ) → initial < 2 ^ q.width → (b g i l r : ℕ)
    → b ≡ n → g ≡ b - p.width → i ≡ initial → l ≡ i * 2 ^ g % 2 ^ b → r ≡ in_order p.refin b l
    → Took (record { algorithm = q; bits = n; register = r }) (record q { init = initial }) []
started n p q same valid initial below b g i l r b_is g_is i_is l_is r_is =
    let v : IsValid n q = subst (IsValid n) same valid in
    let width : p.width ≡ q.width = ap (λ (z : Parameters). z.width) same in
    let g_at : g ≡ n - q.width = g_is ∙ ap₂ (λ x y. x - y) b_is width in
    let l_at : l ≡ initial * 2 ^ (n - q.width) % 2 ^ n =
    l_is ∙ ap (λ y. y * 2 ^ g % 2 ^ b) i_is ∙ ap₂ (λ x y. initial * 2 ^ x % 2 ^ y) g_at b_is in
    let r_at : r ≡ in_order q.refin n l = r_is ∙ ap₂ (λ o y. in_order o y l) (ap (λ (z : Parameters). z.refin) same) b_is in
    record {
      is_valid = record { some = v.some; narrow = v.narrow; degree = v.degree; starts = below; added = v.added };
      same = refl;
      holds = holds_none n (record q { init = initial }) v.narrow r l below l_at r_at;
    }

-- A digest that has taken more bytes.
pub more_taken : (n : ℕ) (p q : Parameters) → p ≡ q → (r s : ℕ) (c : List ℕ)
    → ((i : ℕ) (m : List ℕ) → Holds n (record p { init = i }) r m → Holds n (record p { init = i }) s (m ++ c))
    → (d : Progress) → record { algorithm = q; bits = n; register = r } ≡ d → (a : Parameters) (m : List ℕ) → Took d a m
    → Took (record { algorithm = q; bits = n; register = s }) a (m ++ c)
more_taken n p q same r s c steps d view a m t =
    let before : Took (record { algorithm = q; bits = n; register = r }) a m = subst (λ z. Took z a m) (sym view) t in
    let e : record p { init = a.init } ≡ a = ap (λ (z : Parameters). record z { init = a.init }) same ∙ before.same in
    record {
      is_valid = before.is_valid;
      same = before.same;
      holds = subst (λ z. Holds n z s (m ++ c)) e (steps a.init m (subst (λ z. Holds n z r m) (sym e) before.holds));
    }

-- What is read has as many bits as the register.
read_below : (i o : Bool) (n g r : ℕ) → r < 2 ^ n → read i o n g r < 2 ^ n
read_below true true n g r h = h
read_below false false n g r h = lt_of_le_of_lt (div-le_self r (2 ^ g)) h
read_below true false n g r h = lt_of_le_of_lt (div-le_self (in_order true n r) (2 ^ g)) (in_order_below true n r h)
read_below false true n g r h = in_order_below true n r h

pub crc_below : (n b g r x y : ℕ) (i o : Bool) → b ≡ n → r < 2 ^ n → y < 2 ^ n → x ≡ read i o b g r → bit_xor x y < 2 ^ n
crc_below n b g r x y i o b_is below added x_is =
    let x_at : x ≡ read i o n g r = x_is ∙ ap (λ z. read i o z g r) b_is in
    xor_lt n x y (subst (λ z. z < 2 ^ n) (sym x_at) (read_below i o n g r below)) added

-- What is read of a digest is the checksum of what it has taken.
pub finished : (n : ℕ) (p q : Parameters) → p ≡ q → (r : ℕ) (d : Progress) → record { algorithm = q; bits = n; register = r } ≡ d
    → (a : Parameters) (m : List ℕ) → Took d a m → (b g s x y t : ℕ) → b ≡ n → g ≡ b - p.width → s ≡ r → x ≡ read p.refin p.refout b g s → y ≡ p.xorout
    → t ≡ bit_xor x y → IsCrc a m t
finished n p q same r d view a m taken b g s x y t b_is g_is s_is x_is y_is t_is =
    let k : Took (record { algorithm = q; bits = n; register = r }) a m = subst (λ z. Took z a m) (sym view) taken in
    let e : record p { init = a.init } ≡ a = ap (λ (z : Parameters). record z { init = a.init }) same ∙ k.same in
    let g_at : g ≡ n - a.width = g_is ∙ ap₂ (λ u v. u - v) b_is (ap (λ (z : Parameters). z.width) e) in
    let x_at : x ≡ read a.refin a.refout n (n - a.width) r =
    x_is ∙ ap₂ (λ i o. read i o b g s) (ap (λ (z : Parameters). z.refin) e) (ap (λ (z : Parameters). z.refout) e)
    ∙ ap₂ (λ u v. read a.refin a.refout u v s) b_is g_at ∙ ap (read a.refin a.refout n (n - a.width)) s_is in
    let y_at : y ≡ a.xorout = y_is ∙ ap (λ (z : Parameters). z.xorout) e in
    subst (IsCrc a m) (sym (t_is ∙ ap₂ bit_xor x_at y_at)) (reads n a k.is_valid.narrow r m k.holds)
