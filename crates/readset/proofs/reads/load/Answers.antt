use Rattle.std.proofs.Common.{◌∷◌}
use Rattle.cells.proofs.Grown.{reads_grown}
use Rattle.readset.specs.Arrived.{arrived}
use Rattle.readset.proofs.Placed.{goes}
use Rattle.readset.proofs.reads.load.Goals as goal

pub make_room-requires : goal.make_room-requires
make_room-requires g c =
    let versions = c.args.versions.now in
    (goes c.args.number (arrived versions) c.args.at versions.sound.sorted c.requires.at).inside

pub returns-clause-grown : goal.returns-clause-grown
returns-clause-grown g c = reads_grown c.args.reader.now c.read.new.reader c.args.number (c.read.result.word ∷ c.read.result.payload) c.read.ensures.reads
