use Rattle.std.proofs.Common.{List, [], ◌∷◌, ◌++◌, length, map, sum_by, ap, sym, ◌∙◌, length-append, arith}
use Rattle.std.proofs.lemmas.List.{length-map, map-append, map-id}
use Rattle.std.proofs.lemmas.Iterator.Adapters.{YieldsList-from_vec}
use Rattle.std.proofs.lemmas.Iterator.Consumers.{YieldsList-end, YieldsList-turn}
use Rattle.std.proofs.lemmas.List.Sums.{sum_by_push}
use Rattle.book.specs.Share.{parts_of, share_commits}
use Rattle.terminals_deck.specs.Deck.{DeckView}
use Rattle.run_threads.specs.Tally.{commits_in}
use Rattle.run_threads.specs.declared.tally.Tally.{Tally}
use Rattle.run_threads.specs.declared.worker.TerminalThread.{TerminalThread}
use Rattle.run_threads.proofs.sums.gathered.Goals as goal

pub push_reserved-requires : goal.push_reserved-requires
push_reserved-requires g c =
    let i = c.loop-worker.invariant in
    let b = c.into_iter-worker-iterator.ensures.into_iter_gives in
    let turn = YieldsList-turn (YieldsList-from_vec {s = c.into_iter-worker-iterator.result} c.args.workers.items b.0 (b.1 ∙ c.args.workers.ok.0))
    c.loop-worker.yielded c.loop-worker.worker-iterator c.loop-worker.yielded_by c.next.result c.next.new.self c.in-Some.worker c.in-Some.is c.next.ensures.steps in
    let count = ap length i.tallies ∙ length-map c.loop-worker.yielded (λ (worker : TerminalThread g.row.K.Denot g.row.G.Denot g.K.Run g.G.Gate). worker.tally) in
    omega (arith, turn.0, count, i.room_for_tallies, c.requires.tallies, c.loop-worker.tallies.ok.0)

pub push_reserved-requires-in-loop-worker : goal.push_reserved-requires-in-loop-worker
push_reserved-requires-in-loop-worker g c =
    let i = c.loop-worker.invariant in
    let b = c.into_iter-worker-iterator.ensures.into_iter_gives in
    let turn = YieldsList-turn (YieldsList-from_vec {s = c.into_iter-worker-iterator.result} c.args.workers.items b.0 (b.1 ∙ c.args.workers.ok.0))
    c.loop-worker.yielded c.loop-worker.worker-iterator c.loop-worker.yielded_by c.next.result c.next.new.self c.in-Some.worker c.in-Some.is c.next.ensures.steps in
    omega (arith, turn.0, i.shares, i.room_for_shares, c.requires.shares, c.loop-worker.shares.ok.0)

pub loop-worker-preserved : goal.loop-worker-preserved
loop-worker-preserved g c =
    let i = c.loop-worker.invariant in
    let tally_of : TerminalThread g.row.K.Denot g.row.G.Denot g.K.Run g.G.Gate → Tally = λ worker. worker.tally in
    let tally : Tally = c.end-acknowledged.result.0 in
    let share = c.end-acknowledged.result.2 in
    let deck_of : TerminalThread g.row.K.Denot g.row.G.Denot g.K.Run g.G.Gate → DeckView = λ worker. worker.terminal.deck in
    let deck : DeckView = c.end-acknowledged.result.3 in
    let parts = ap (sum_by parts_of) c.push_reserved-in-loop-worker.ensures.items ∙ sum_by_push parts_of c.loop-worker.shares.items share in
    let commits = ap (sum_by share_commits) c.push_reserved-in-loop-worker.ensures.items ∙ sum_by_push share_commits c.loop-worker.shares.items share in
    let counts = ap (sum_by commits_in) c.push_reserved.ensures.items ∙ sum_by_push commits_in c.loop-worker.tallies.items tally in
    let more = length-append c.loop-worker.yielded (c.in-Some.worker ∷ []) in
    record {
      tallies =
          c.push_reserved.ensures.items ∙ ap (λ (some : List Tally). some ++ tally ∷ []) i.tallies
          ∙ ap (λ (t : Tally). map tally_of c.loop-worker.yielded ++ t ∷ []) c.end-acknowledged.ensures.tally
          ∙ sym (map-append tally_of c.loop-worker.yielded (c.in-Some.worker ∷ []));
      decks =
          c.push_reserved-in-loop-worker-2.ensures.items ∙ ap (λ (some : List DeckView). some ++ deck ∷ []) i.decks
          ∙ ap (λ (d : DeckView). map deck_of c.loop-worker.yielded ++ d ∷ []) c.end-acknowledged.ensures.deck
          ∙ sym (map-append deck_of c.loop-worker.yielded (c.in-Some.worker ∷ []));
      shares = omega (arith, ap length c.push_reserved-in-loop-worker.ensures.items, length-append c.loop-worker.shares.items (share ∷ []), i.shares, more);
      parts = omega (arith, parts, c.end-acknowledged.ensures.parts, i.parts, more);
      commits = omega (arith, commits, counts, c.end-acknowledged.ensures.commits, ap (λ (t : Tally). t.commits) c.end-acknowledged.ensures.tally, i.commits);
      room_for_tallies = c.push_reserved.ensures.capacity ∙ i.room_for_tallies;
      room_for_shares = c.push_reserved-in-loop-worker.ensures.capacity ∙ i.room_for_shares;
      room_for_decks = c.push_reserved-in-loop-worker-2.ensures.capacity ∙ i.room_for_decks;
    }

pub returns-clause-tallies : goal.returns-clause-tallies
returns-clause-tallies g c =
    let b = c.into_iter-worker-iterator.ensures.into_iter_gives in
    let end = YieldsList-end (YieldsList-from_vec {s = c.into_iter-worker-iterator.result} c.args.workers.items b.0 (b.1 ∙ c.args.workers.ok.0))
    c.loop-worker.yielded c.loop-worker.worker-iterator c.loop-worker.yielded_by c.next.result c.next.new.self c.in-None.is c.next.ensures.steps in
    let tally_of : TerminalThread g.row.K.Denot g.row.G.Denot g.K.Run g.G.Gate → Tally = λ worker. worker.tally in
    c.loop-worker.invariant.tallies ∙ ap (map tally_of) (sym (map-id c.loop-worker.yielded) ∙ end.0)

pub returns-clause-decks : goal.returns-clause-decks
returns-clause-decks g c =
    let b = c.into_iter-worker-iterator.ensures.into_iter_gives in
    let end = YieldsList-end (YieldsList-from_vec {s = c.into_iter-worker-iterator.result} c.args.workers.items b.0 (b.1 ∙ c.args.workers.ok.0))
    c.loop-worker.yielded c.loop-worker.worker-iterator c.loop-worker.yielded_by c.next.result c.next.new.self c.in-None.is c.next.ensures.steps in
    let deck_of : TerminalThread g.row.K.Denot g.row.G.Denot g.K.Run g.G.Gate → DeckView = λ worker. worker.terminal.deck in
    c.loop-worker.invariant.decks ∙ ap (map deck_of) (sym (map-id c.loop-worker.yielded) ∙ end.0)

pub returns-clause-parts : goal.returns-clause-parts
returns-clause-parts g c =
    let b = c.into_iter-worker-iterator.ensures.into_iter_gives in
    let end = YieldsList-end (YieldsList-from_vec {s = c.into_iter-worker-iterator.result} c.args.workers.items b.0 (b.1 ∙ c.args.workers.ok.0))
    c.loop-worker.yielded c.loop-worker.worker-iterator c.loop-worker.yielded_by c.next.result c.next.new.self c.in-None.is c.next.ensures.steps in
    c.loop-worker.invariant.parts ∙ end.1

pub returns-clause-commits : goal.returns-clause-commits
returns-clause-commits g c = c.loop-worker.invariant.commits
