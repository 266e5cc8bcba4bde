-- `load::first_state` meets its contract: every place holds no event, or a stack of nobody.
use lib.ListN.{replicate}
use Rattle.model.specs.declared.Origin.TheVariants.{External}
use Rattle.model.specs.declared.Status.TheVariants.{Active}
use Rattle.model.specs.State.{most_stacks, most_queued}
use Rattle.state.specs.View.{most_below}
use Rattle.load.proofs.first_state.Goals as goal

pub returns : goal.returns
returns c =
    let l = c.no_literal-nothing.ensures in
    let v = c.empty-env.ensures in
    λ i. record {
      beliefs = c.args.beliefs;
      queue = replicate most_queued (record { origin = External 0; kind = 0; literal = l i; failed = 0 });
      queued = 0;
      stacks = replicate most_stacks (record {
        top = record { id = 0; plan = 0; env = v i; state = 0; tried = 0; status = Active };
        below = replicate most_below (record { id = 0; plan = 0; env = v i; state = 0; tried = 0; status = Active });
        depth = 0;
        external = 0;
      });
      stacked = 0;
      taken = 0;
      made = 0;
    }
