-- What is sent down, at each kind of adaptor.
use Rattle.std.proofs.Common.{◌≡◌, nat_abs, to_z-of_z}
use Rattle.engine.proofs.Range.{down_fits, series_sum, series_fits, series_down, parallel_down}
use Rattle.engine.proofs.wave.sends_down.Goals as goal
use Rattle.engine.proofs.wave.sends_down.Goals.{After-series_first-b1}

-- ---- series: where the sum is taken, and where the first child's wave is known

pub overflow_sub-a3 : goal.overflow_sub-a3
overflow_sub-a3 g c = let m = down_fits g.met.R.Rounds.known c.requires in rw (to_z-of_z m.3, to_z-of_z m.2) m.4

pub series_first-b1-requires : goal.series_first-b1-requires
series_first-b1-requires g c =
    let p = c.requires in
    let m = down_fits g.met.R.Rounds.known p in
    rw (to_z-of_z c.ranges.g, to_z-of_z m.0, to_z-of_z m.3, to_z-of_z m.2, to_z-of_z m.4) (p.below.ratio, p.below.first, m.5)

first_is : (g : _) (c : After-series_first-b1 g) → let a = c.args in c.series_first-b1.result ≡ g.R.Rounds.rounding.b1 (nat_abs a.g) a.a1.0 a.a2.0 a.a3.0
first_is g c =
    let m = down_fits g.met.R.Rounds.known c.requires in
    rw (to_z-of_z c.ranges.g, to_z-of_z m.0, to_z-of_z m.3, to_z-of_z m.2, to_z-of_z m.4) at c.series_first-b1.ensures _ _
    (series_sum g.met.R.Rounds.known c.requires c.in-Series.is)

pub overflow_add-second : goal.overflow_add-second
overflow_add-second g c =
    let f = series_fits g.met.R.Rounds.known c.requires c.in-Series.is (first_is g (goal.at.overflow_add-second g c).After-series_first-b1) in
    rw (to_z-of_z (down_fits g.met.R.Rounds.known c.requires).3, to_z-of_z f.0) f.1

pub overflow_sub-second : goal.overflow_sub-second
overflow_sub-second g c =
    let f = series_fits g.met.R.Rounds.known c.requires c.in-Series.is (first_is g (goal.at.overflow_sub-second g c).After-series_first-b1) in
    rw (to_z-of_z (down_fits g.met.R.Rounds.known c.requires).3, to_z-of_z f.0, to_z-of_z f.1) f.2

pub returns-in-Series-clause-first : goal.returns-in-Series-clause-first
returns-in-Series-clause-first g c =
    let first = first_is g (goal.at.returns-in-Series-clause-first g c).After-series_first-b1 in
    let f = series_fits g.met.R.Rounds.known c.requires c.in-Series.is first in
    rw (to_z-of_z f.0) (series_down g.met.R.Rounds.known c.requires c.in-Series.is first).0

pub returns-in-Series-clause-second : goal.returns-in-Series-clause-second
returns-in-Series-clause-second g c =
    let first = first_is g (goal.at.returns-in-Series-clause-second g c).After-series_first-b1 in
    let f = series_fits g.met.R.Rounds.known c.requires c.in-Series.is first in
    rw (to_z-of_z (down_fits g.met.R.Rounds.known c.requires).3, to_z-of_z f.0, to_z-of_z f.1, to_z-of_z f.2) (series_down g.met.R.Rounds.known c.requires c.in-Series.is first).1

-- ---- parallel: where the sum is taken, and what each child gets

pub overflow_add-all : goal.overflow_add-all
overflow_add-all g c = let m = down_fits g.met.R.Rounds.known c.requires in rw (to_z-of_z m.2, to_z-of_z m.3) m.6

pub overflow_sub-first : goal.overflow_sub-first
overflow_sub-first g c = let m = down_fits g.met.R.Rounds.known c.requires in rw (to_z-of_z m.2, to_z-of_z m.3, to_z-of_z m.6, to_z-of_z m.0) m.7

pub overflow_sub-second-in-Parallel : goal.overflow_sub-second-in-Parallel
overflow_sub-second-in-Parallel g c = let m = down_fits g.met.R.Rounds.known c.requires in rw (to_z-of_z m.2, to_z-of_z m.3, to_z-of_z m.6, to_z-of_z m.1) m.8

pub returns-in-Parallel-clause-first : goal.returns-in-Parallel-clause-first
returns-in-Parallel-clause-first g c =
    let m = down_fits g.met.R.Rounds.known c.requires in
    rw (to_z-of_z m.2, to_z-of_z m.3, to_z-of_z m.6, to_z-of_z m.0, to_z-of_z m.7) (parallel_down g.met.R.Rounds.known c.requires c.in-Parallel.is).0

pub returns-in-Parallel-clause-second : goal.returns-in-Parallel-clause-second
returns-in-Parallel-clause-second g c =
    let m = down_fits g.met.R.Rounds.known c.requires in
    rw (to_z-of_z m.2, to_z-of_z m.3, to_z-of_z m.6, to_z-of_z m.1, to_z-of_z m.8) (parallel_down g.met.R.Rounds.known c.requires c.in-Parallel.is).1
