use Rattle.std.proofs.Common.{◌≡◌, true, false, [], ◌∷◌, ◌++◌, refl, sym, ap, ◌∙◌, inr}
use Rattle.postcard_schema.specs.Meaning.{entry_of, has_bytes, type_of}
use Rattle.postcard_schema_message.proofs.ByKind.{map_empty, map_made}
use Rattle.postcard_schema_message.proofs.root.map_of.Goals as goal

pub returns-then-not-entry_has_bytes : goal.returns-then-not-entry_has_bytes
returns-then-not-entry_has_bytes c =
    let key = c.in_ok-key.key.value in
    let value = c.in-Some.value in
    let both : c.args.parts.items ≡ key ∷ value ∷ [] = c.in-Some.ensures.items ∙ ap (λ ss. ss ++ value ∷ []) c.in_ok-key.ensures.held in
    let none : has_bytes (entry_of (type_of key) (type_of value)) ≡ false =
    ap (λ s. has_bytes (entry_of (type_of s) (type_of value))) (sym c.deref.ensures) ∙ sym c.entry_has_bytes.ensures ∙ c.if-not-entry_has_bytes.true in
    record { made = tt; full = λ f. tt; refused = inr (refl, map_empty key value c.args.parts.items both none) }

pub returns : goal.returns
returns c =
    let key = c.in_ok-key.key.value in
    let value = c.in-Some.value in
    let held = c.in_ok-boxed.field-0 in
    let both : c.args.parts.items ≡ key ∷ value ∷ [] = c.in-Some.ensures.items ∙ ap (λ ss. ss ++ value ∷ []) c.in_ok-key.ensures.held in
    let all : c.args.parts.items ≡ key ∷ held.value ∷ [] = both ∙ ap (λ s. key ∷ s ∷ []) (sym c.in_ok-boxed.ensures.held) in
    let some : has_bytes (entry_of (type_of key) (type_of held.value)) ≡ true =
    ap (λ s. has_bytes (entry_of (type_of key) (type_of s))) c.in_ok-boxed.ensures.held
    ∙ ap (λ s. has_bytes (entry_of (type_of s) (type_of value))) (sym c.deref.ensures) ∙ sym c.entry_has_bytes.ensures ∙ c.if-not-entry_has_bytes.false in
    map_made c.in_ok-key.key held c.args.parts.items all some
