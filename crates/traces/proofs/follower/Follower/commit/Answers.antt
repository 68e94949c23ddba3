use Rattle.std.proofs.Common.{◌≡◌, ◌∙◌, ◌+◌, ap, refl, arith}
use Rattle.tables.specs.Sizes.{Sizes}
use Rattle.tidword.specs.TidWord.{epoch_of}
use Rattle.traces.proofs.Steps.{commit_is_followed}
use Rattle.traces.proofs.follower.Follower.commit.Goals as goal

pub returns : goal.returns
returns c =
    let e = c.in-Some.entry.now in
    let is : c.from-epoch.result ≡ epoch_of e.tid = c.from-epoch.ensures ∙ c.epoch.ensures in
    let cap : c.commits.result ≡ c.args.trace.now.scale.commits = c.commits.ensures.value ∙ ap (λ (s : Sizes). s.commits) c.scale.ensures in
    commit_is_followed c.args.trace.now c.args.self.now e c.in-Some.ensures.at (omega (arith, is, c.if-epoch-self.false)) (omega (arith, is, c.if-self-epoch.false))
    (omega (arith, cap, c.if-entry-commits.false)) c.from-epoch.result (c.args.self.now.committed + 1) is refl
