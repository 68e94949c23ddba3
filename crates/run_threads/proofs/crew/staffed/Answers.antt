use Rattle.std.proofs.Common.{◌≡◌, ◌++◌, ◌∙◌, All, Option, IfSome, option_to_list, ap, rules, subst, sym}
use Rattle.std.proofs.lemmas.List.Elements.{All-pop, All-push}
use Rattle.book.specs.Share.{share_commits, parts_of}
use Rattle.run_threads.specs.Tally.{inputs_in}
use Rattle.run_threads.specs.declared.worker.Station.{Station}
use Rattle.run_threads.specs.declared.worker.TerminalThread.{TerminalThread}
use Rattle.run_threads.proofs.Inputs.{decks_staffed}
use Rattle.run_threads.proofs.crew.staffed.Goals as goal

pub loop-station-preserved : goal.loop-station-preserved
loop-station-preserved g c =
    let i = c.loop-station.invariant in
    let decks = All-pop (λ (station : Station g.row.G.Denot). station.deck.scale ≡ g.K.Run.run.first.scale)
    c.loop-station.stations.items c.pop.new.self.items c.pop.result c.pop.ensures.items i.0 in
    let idle = All-push (λ (worker : TerminalThread g.row.K.Denot g.row.G.Denot g.K.Run g.G.Gate). inputs_in worker.tally ≡ 0)
    c.loop-station.workers.items c.in_ok-new.field-0 i.3 c.in_ok-new.ensures.idle in (
      decks.0,
      search rules,
      search rules,
      subst (All (λ (worker : TerminalThread g.row.K.Denot g.row.G.Denot g.K.Run g.G.Gate). inputs_in worker.tally ≡ 0)) (sym c.in_ok-push.ensures.items) idle,
      decks_staffed (λ (worker : TerminalThread g.row.K.Denot g.row.G.Denot g.K.Run g.G.Gate). worker.terminal.deck)
          (λ (station : Station g.row.G.Denot). station.deck) c.loop-station.workers.items c.push.new.self.items
          c.loop-station.stations.items c.pop.new.self.items c.in_ok-new.field-0 c.in-Some.station _
          (c.pop.ensures.items ∙ ap (λ r. c.pop.new.self.items ++ option_to_list r) c.in-Some.is) c.in_ok-push.ensures.items
          c.in_ok-new.ensures.deck i.4,
    )

pub new-requires-clause-parts : goal.new-requires-clause-parts
new-requires-clause-parts g c = ap parts_of c.in-Some-next.ensures.seat.1

pub new-requires-clause-commits : goal.new-requires-clause-commits
new-requires-clause-commits g c = ap share_commits c.in-Some-next.ensures.seat.1

pub new-requires-clause-deck : goal.new-requires-clause-deck
new-requires-clause-deck g c =
    let decks = All-pop (λ (station : Station g.row.G.Denot). station.deck.scale ≡ g.K.Run.run.first.scale)
    c.loop-station.stations.items c.pop.new.self.items c.pop.result c.pop.ensures.items c.loop-station.invariant.0 in
    subst (λ (r : Option (Station g.row.G.Denot)). IfSome r (λ (station : Station g.row.G.Denot). station.deck.scale ≡ g.K.Run.run.first.scale)) c.in-Some.is decks.1

pub returns-clause-idle : goal.returns-clause-idle
returns-clause-idle g c = c.loop-station.invariant.3
