-- Which own answer a frame has, and that the answer to a sent frame is the value that was sent.
use Rattle.std.proofs.Common.{◌≡◌, ◌+◌, ◌-◌, ◌*◌, ℕ, List, [], ◌++◌, refl, sym, subst, ◌∙◌, append-nil, arith, bit_xor}
use Rattle.crc.specs.Crc.{Parameters, IsCrc, IsSound, message}
use Rattle.crc.specs.Digest.{Progress, Took}
use Rattle.crc.specs.Damage.{IsBurst}
use Rattle.crc.specs.Checked.{low_bytes}
use Rattle.crc.proofs.CheckedLemmas.{no_burst_in_checked}
use Rattle.postcard_cobs.specs.Groups.{Groups}
use Rattle.postcard_cobs.proofs.Frames.{data_is_one}
use Rattle.postcard_wire.specs.Tree.{Tree}
use Rattle.postcard_wire.specs.Spelling.{Spells, canonical}
use Rattle.postcard_wire.specs.declared.error.Error.{Error}
use Rattle.postcard_wire.specs.declared.error.Error.TheVariants.{OutOfMemory}
use Rattle.postcard_shape.specs.Shape.{Shape, Grows}
use Rattle.postcard_shape.proofs.Again.{is_spelled, is_same}
use Rattle.postcard_accumulator.specs.declared.answers.Answer.TheVariants.{OverFull, DeserError, Success}
use Rattle.postcard_crc.specs.Reading.{ReadsChecked}
use Rattle.postcard_crc.specs.Own.{IsValueOf, IsRefused}
use Rattle.postcard_crc.specs.FrameLaws.{MessageArrives, DamageRefused}

module _ {T : Type 0} (shape : Shape T) (k : ℕ) (a : Parameters) where
  -- A frame that has no data has no value.
  pub refused_none : (f : List ℕ) → ((d : List ℕ) → Groups f d → ⊥) → IsRefused shape k a f
  refused_none f none still sound v o = none o.content o.decodes

  -- Let a call succeed for every message if no allocation fails. If it fails, the frame has no value.
  pub refused_data : (d : List ℕ) (e : Error)
      → ((t : Tree) (front : List ℕ) (crc : ℕ) → shape.reads t → Spells t front → IsSound a → IsCrc a front crc → d ≡ front ++ low_bytes k crc → (e ≡ OutOfMemory) × Grows shape)
      → (f : List ℕ) → Groups f d → IsRefused shape k a f
  refused_data d e accepts f g still sound v o =
      still (accepts o.tree o.front o.crc o.is_read o.is_spelled sound o.is_crc (data_is_one f d o.content g o.decodes ∙ o.joins)).1

  -- The value that a call read from the data is the value of the frame.
  pub value_read : {V : Type 0} (see : V → T) (p : Progress) → Took p a [] → (d : List ℕ) (v : V)
      → ReadsChecked shape.reads (λ t w. shape.value t (see w)) k p d v []
      → (f : List ℕ) → Groups f d → IsValueOf shape k a f (see v)
  value_read see p none d v r f g = record {
    content = d;
    decodes = g;
    tree = r.tree;
    front = r.front;
    crc = r.crc;
    is_read = r.is_read;
    is_spelled = r.is_spelled;
    has = r.has;
    is_crc = r.is_crc a [] none;
    joins = r.joins ∙ append-nil (r.front ++ low_bytes k r.crc);
  }

  -- A frame with the data of a value has a value that equals it, as far as the shape tells values apart.
  pub same_value : (x v : T) (crc : ℕ) (f : List ℕ) → shape.fits x → Groups f (canonical (shape.tree x) ++ low_bytes k crc)
      → IsValueOf shape k a f v → shape.same v x
  same_value x v crc f fits g o =
      let enc = canonical (shape.tree x) in
      let one = sym o.joins ∙ data_is_one f o.content (enc ++ low_bytes k crc) o.decodes g in
      let at = shape.delimited o.tree (shape.tree x) o.front enc (low_bytes k o.crc) (low_bytes k crc) o.is_read (shape.again x fits).0 o.is_spelled (is_spelled shape x fits) one in
      is_same shape x v fits (subst (λ t. shape.value t v) at.1 o.has)

pub message_law : {T : Type 0} (shape : Shape T) → MessageArrives shape
message_law shape k a x crc f (Success v) sound fits is g own = same_value shape k a x v crc f fits g own
message_law shape k a x crc f DeserError sound fits is g own = λ still. own still sound x (record {
  content = canonical (shape.tree x) ++ low_bytes k crc;
  decodes = g;
  tree = shape.tree x;
  front = canonical (shape.tree x);
  crc = crc;
  is_read = (shape.again x fits).0;
  is_spelled = is_spelled shape x fits;
  has = (shape.again x fits).1;
  is_crc = is;
  joins = refl;
})
message_law shape k a x crc f OverFull sound fits is g own = absurd own

pub damage_law : {T : Type 0} (shape : Shape T) → DamageRefused shape
damage_law shape k a x v crc f came fits is damage are g o =
    let sent = canonical (shape.tree x) ++ low_bytes k crc in
    let whole : came ≡ o.front ++ low_bytes k o.crc = data_is_one f came o.content g o.decodes ∙ o.joins in
    let narrow = damage.narrow in
    let size : a.width + (8 * k - a.width) ≡ 8 * k = omega arith in
    let burst : IsBurst a.width (bit_xor (message a.refin sent) (message a.refin came)) = subst (λ r. IsBurst a.width (bit_xor (message r sent) (message r came))) (sym damage.refin) damage.burst in
    let same : sent ≡ came = no_burst_in_checked a damage.sound k (8 * k - a.width) damage.refin damage.refout size sent came damage.length damage.are_bytes are damage.is_checked
    (record { bytes = o.front; crc = o.crc; is_crc = o.is_crc; joins = whole }) burst in
    (sym same, same_value shape k a x v crc f fits (subst (λ (z : List ℕ). Groups f z) (sym same) g) o)
