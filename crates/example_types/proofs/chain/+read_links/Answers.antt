-- At each return, the index, the number and the other links are read as far as the function came.
use Rattle.std.proofs.Common.{◌≡◌, suc, ◌-◌, arith, rules, refl}
use Rattle.postcard_wire.specs.declared.error.Error.TheVariants.{SerdeDeCustom}
use Rattle.postcard_wire.specs.Reading.{IsEnd, IsGroup}
use Rattle.postcard.specs.Lemmas.{stops, and_part, and_fails, no_more, struct_read}
use Rattle.postcard.specs.Lemmas.{index_refused, variant_read, unknown_index}
use Rattle.example_types.proofs.ReadLemmas.{link_read, link_refused, link_too_big, no_other}
use Rattle.example_types.proofs.chain.+read_links.Goals as goal

pub returns-in_err-deserialize_enum : goal.returns-in_err-deserialize_enum
returns-in_err-deserialize_enum g t c =
    let f = c.if-limit-eq0.false in
    let deeper : c.args.limit ≡ suc (c.args.limit - 1) = omega arith in
    rw deeper (index_refused g.F.Flavor.lawful c.from_residual.ensures.1
    c.in_err-deserialize_enum.ensures.reads)

pub returns-in-0 : goal.returns-in-0
returns-in-0 g t c =
    let laws = g.F.Flavor.lawful in
    let f = c.if-limit-eq0.false in
    let deeper : c.args.limit ≡ suc (c.args.limit - 1) = omega arith in
    rw deeper (variant_read laws (λ t h. (0, t, refl, h)) (rw c.in-0.is at
    c.in_ok-deserialize_enum.ensures.reads) (struct_read laws {A = Unit {0}} {value = λ t u.
    IsGroup IsEnd t} {a = tt} (λ t h. h) (no_more laws)))

pub returns-in_err-number-in-1 : goal.returns-in_err-number-in-1
returns-in_err-number-in-1 g t c =
    let laws = g.F.Flavor.lawful in
    let f = c.if-limit-eq0.false in
    link_refused laws c.args.limit (c.args.limit - 1) (omega arith) c.in-1.is
    c.from_residual-in_err-number-in-1.ensures.1 c.in_ok-deserialize_enum.ensures.reads
    (stops laws c.in_err-number-in-1.ensures.reads)

pub returns-in_err-rest-in-1 : goal.returns-in_err-rest-in-1
returns-in_err-rest-in-1 g t c =
    let laws = g.F.Flavor.lawful in
    let f = c.if-limit-eq0.false in
    link_refused laws c.args.limit (c.args.limit - 1) (omega arith) c.in-1.is
    c.from_residual-in_err-rest-in-1.ensures.1 c.in_ok-deserialize_enum.ensures.reads
    (and_fails laws c.in_ok-number-in-1.ensures.reads (stops laws
    c.in_err-rest-in-1.ensures))

pub returns-in-Ok : goal.returns-in-Ok
returns-in-Ok g t c =
    let laws = g.F.Flavor.lawful in
    let f = c.if-limit-eq0.false in
    link_read laws c.args.limit (c.args.limit - 1) (omega arith) {w = c.in_ok-rest-in-1.rest}
    c.in-1.is (search rules) c.in_ok-deserialize_enum.ensures.reads
    (and_part laws c.in_ok-number-in-1.ensures.reads (and_part laws c.in_ok-rest-in-1.ensures
    (no_more laws)))

pub returns-in-1 : goal.returns-in-1
returns-in-1 g t c =
    let laws = g.F.Flavor.lawful in
    let f = c.if-limit-eq0.false in
    link_too_big laws c.args.limit (c.args.limit - 1) (omega arith) c.in_ok-rest-in-1.rest
    c.in-1.is c.in_ok-deserialize_enum.ensures.reads
    (and_part laws c.in_ok-number-in-1.ensures.reads (and_part laws c.in_ok-rest-in-1.ensures
    (no_more laws)))

pub returns : goal.returns
returns g t c =
    let laws = g.F.Flavor.lawful in
    let f = c.if-limit-eq0.false in
    let deeper : c.args.limit ≡ suc (c.args.limit - 1) = omega arith in
    let custom : c.de_custom-in_default.result ≡ SerdeDeCustom = search rules in
    let i = c.in_ok-deserialize_enum.field-0 in
    let not_end : i ≡ 0 → ⊥ = search rules in
    let not_link : i ≡ 1 → ⊥ = search rules in
    rw (deeper, custom) (unknown_index laws tt (no_other _ _ i not_end not_link)
    c.in_ok-deserialize_enum.ensures.reads)
