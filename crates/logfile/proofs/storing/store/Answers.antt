use Rattle.std.proofs.Common.{refl}
use Rattle.std.proofs.lemmas.Result.{on_ok_weaker}
use Rattle.logfile.specs.declared.storing.TheConstants.{OPEN}
use Rattle.logfile.proofs.Staging.{text_seen, gate_seen, text_moments, store_moments, at_gate_still}
use Rattle.logfile.proofs.storing.store.Goals as goal

pub returns-in_err-put-clause-moments : goal.returns-in_err-put-clause-moments
returns-in_err-put-clause-moments g c = λ modelled front gate rest has.
    text_moments c.args.end front gate rest _ c.args.text.now _ _ _ has (c.put.ensures.moments modelled)

pub returns-clause-bytes : goal.returns-clause-bytes
returns-clause-bytes g c = λ modelled front gate rest has.
    let behind = text_seen c.args.end front gate rest _ c.args.text.now _ has (c.in_ok-put.ensures.bytes modelled) in
    on_ok_weaker c.put-2.result
    (λ is. gate_seen c.args.end front gate OPEN _ _ _ behind is)
    (c.put-2.ensures.bytes modelled)

pub returns-clause-moments : goal.returns-clause-moments
returns-clause-moments g c = λ modelled front gate rest has.
    store_moments c.args.end front gate rest _ c.args.text.now _ _ _ _ _ has (c.put.ensures.moments modelled)
    (c.in_ok-put.ensures.bytes modelled) (c.put-2.ensures.moments modelled)

pub returns-in_err-put-clause-may_stay : goal.returns-in_err-put-clause-may_stay
returns-in_err-put-clause-may_stay g c = λ modelled front gate rest has err.
    at_gate_still c.args.end front gate rest _ _ has (c.in_err-put.ensures.may_stay modelled refl)

pub returns-clause-may_stay : goal.returns-clause-may_stay
returns-clause-may_stay g c = λ modelled front gate rest has err.
    let behind = text_seen c.args.end front gate rest _ c.args.text.now _ has (c.in_ok-put.ensures.bytes modelled) in
    at_gate_still c.args.end front gate _ _ _ behind (c.put-2.ensures.may_stay modelled err)
