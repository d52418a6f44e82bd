-- The stored waves are loaded, the samples are played over a plan of the record, and what they leave is taken out.
use Rattle.engine.specs.Sample.{Loaded}
use Rattle.engine.proofs.Calling.{laid_out}
use Rattle.engine.proofs.play.play.Goals as goal
use Rattle.engine.proofs.play.play.Goals.{After-load-up}

loaded : (g : _) (c : After-load-up g) → Loaded c.args.r.now c.args.state.now.waves c.load-up.result
loaded g c = c.load-up.ensures c.requires.0.waves

pub samples-stop-requires : goal.samples-stop-requires
samples-stop-requires g c = (laid_out c.lay_out-plan.ensures (loaded g (goal.at.samples-stop-requires g c).After-load-up), c.requires.1)

pub unload-requires : goal.unload-requires
unload-requires g c =
    let w = c.samples-stop.ensures.plays _ _ c.lay_out-plan.ensures (loaded g (goal.at.unload-requires g c).After-load-up) in
    (c.lay_out-plan.ensures.seated, (_, w.loaded))

pub returns : goal.returns
returns g c =
    let w = c.samples-stop.ensures.plays _ _ c.lay_out-plan.ensures (loaded g (goal.at.returns g c).After-load-up) in
    record { number = w.number; samples = w.samples; segment = w.segment; waves = c.unload.ensures _ w.loaded; written = w.written }
