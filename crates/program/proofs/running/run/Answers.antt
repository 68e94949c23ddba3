use Rattle.std.proofs.Common.{◌≡◌, ◌∙◌, map, string_bytes, sym, refl}
use Rattle.std.proofs.KnownBytes.{Appends-nil}
use Rattle.clap.specs.Values.{kind_of}
use Rattle.clap.specs.declared.error.kind.ErrorKind.TheVariants.{DisplayVersion}
use Rattle.program_options.specs.CommandLine.{AsksFor}
use Rattle.program_options.specs.declared.asked.Asked.TheVariants.{OnTables, Info}
use Rattle.program_files.specs.Causes.{cause_of}
use Rattle.program.specs.Run.{answered, fault, refused}
use Rattle.program.proofs.Beginnings.{nothing_begun}
use Rattle.program.proofs.Beside.{told_before}
use Rattle.program.proofs.Plain.{informed_run, version_asked, version_run}
use Rattle.program.proofs.running.run.Goals as goal

pub returns-in-Ok : goal.returns-in-Ok
returns-in-Ok g c = λ bytes left.
    let words = map string_bytes c.args.words.now in
    let asked = c.in-Ok-OnTables.asked in
    let asks : AsksFor words (OnTables asked) = rw c.in-Ok-OnTables.field-0-is at c.in-Ok-OnTables.ensures.asked in
    let old = g.E.Write.contents c.args.errors.now.errors in
    let between = g.E.Write.contents c.answer.new.errors.errors in
    let new = g.E.Write.contents c.finish.new.errors.errors in
    answered asked c.in-Ok.report asks (c.in-Ok.ensures.whole bytes left)
    (told_before asked.subcommand old between new c.answer.ensures.beside (nothing_begun between new c.finish.ensures.line))
    c.finish.ensures.status.0 c.finish.ensures.status.1

pub returns-in-Ok-OnTables : goal.returns-in-Ok-OnTables
returns-in-Ok-OnTables g c = λ bytes left.
    let words = map string_bytes c.args.words.now in
    let asked = c.in-Ok-OnTables.asked in
    let asks : AsksFor words (OnTables asked) = rw c.in-Ok-OnTables.field-0-is at c.in-Ok-OnTables.ensures.asked in
    let told = c.tell_refused.ensures.lines in
    let fault = c.in-Err-answer.fault in
    refused asked fault.refusal (cause_of fault) told.0 (g.E.Write.contents c.answer.new.errors.errors) asks
    (c.in-Err-answer.ensures.refused bytes left) c.answer.ensures.beside told.1 told.2 c.tell_refused.ensures.status

pub returns-in-Ok-Info : goal.returns-in-Ok-Info
returns-in-Ok-Info g c = λ bytes left.
    let words = map string_bytes c.args.words.now in
    let asks : AsksFor words (Info c.in-Ok-Info.asked) = rw c.in-Ok-Info.field-0-is at c.in-Ok-Info.ensures.asked in
    informed_run words bytes _ _ _ _ _ _ _ c.in-Ok-Info.asked c.info-told.result asks c.info-told.ensures.told c.info-told.ensures.untold c.end.ensures.good
    c.end.ensures.refused

pub returns-in-DisplayVersion : goal.returns-in-DisplayVersion
returns-in-DisplayVersion g c = λ bytes left.
    let words = map string_bytes c.args.words.now in
    let kind : kind_of c.in-Err.error ≡ DisplayVersion = sym c.kind.ensures ∙ c.in-DisplayVersion.is in
    version_run words bytes _ _ _ _ _ _ _ c.tell_version-told.result (version_asked words c.in-Err.error c.in-Err.ensures.refused kind)
    c.tell_version-told.ensures.whole c.tell_version-told.ensures.beginning c.end-in-DisplayVersion.ensures.good c.end-in-DisplayVersion.ensures.refused

pub returns : goal.returns
returns g c = λ bytes left. fault c.in-Err.error c.tell_fault.ensures.0 c.in-Err.ensures.refused (λ is. c.in_default.not-DisplayVersion (c.kind.ensures ∙ is))
    (Appends-nil (g.O.Write.contents c.args.output.now.stream)) c.tell_fault.ensures.1 refl
