-- `from_bytes` returns the value that `take_from_bytes` read, or its error.
use Rattle.postcard_de_nodes.specs.ReadLemmas.{is_refusal}
use Rattle.postcard_crc.proofs.de.from_bytes.Goals as goal

pub returns-in_err-value-clause-reads_back : goal.returns-in_err-value-clause-reads_back
returns-in_err-value-clause-reads_back g c x a m rest crc fits sound took is e =
    let refused = c.in_err-value in
    let found = refused.ensures.reads_back x a m rest crc fits sound took is e in
    rw (is_refusal c.from_residual.result refused.field-0.0 c.from_residual.ensures.1) found

pub returns-clause-reads_back : goal.returns-clause-reads_back
returns-clause-reads_back g c x a m rest crc fits sound took is e = (c.in_ok-value.ensures.reads_back x a m rest crc fits sound took is e).0

pub returns-clause-gives : goal.returns-clause-gives
returns-clause-gives g c = (_, c.in_ok-value.ensures.gives)

pub returns-in_err-value-clause-accepts : goal.returns-in_err-value-clause-accepts
returns-in_err-value-clause-accepts g c t a m front rest crc read spelled sound took is e =
    let refused = c.in_err-value in
    let found = refused.ensures.accepts t a m front rest crc read spelled sound took is e in
    rw (is_refusal c.from_residual.result refused.field-0.0 c.from_residual.ensures.1) found

pub returns-clause-accepts : goal.returns-clause-accepts
returns-clause-accepts g c t a m front rest crc read spelled sound took is e = (c.in_ok-value.ensures.accepts t a m front rest crc read spelled sound took is e).0

pub returns-in_err-value-clause-exact_errors : goal.returns-in_err-value-clause-exact_errors
returns-in_err-value-clause-exact_errors g c =
    rw (is_refusal c.from_residual.result c.in_err-value.field-0.0 c.from_residual.ensures.1) c.in_err-value.ensures.exact_errors

pub returns-clause-exact_errors : goal.returns-clause-exact_errors
returns-clause-exact_errors g c = c.in_ok-value.ensures.exact_errors
