use Rattle.std.proofs.Common.{◌≡◌, ◌≤◌, ◌-◌, ◌++◌, length, take, replicate}
use Rattle.customer_data.proofs.text.front_end.Given as goal

-- letters alone stand from here on
abbrev pub invariant-loop-end : goal.invariant-loop-end
invariant-loop-end l = record {
  within : l.end ≤ length l.text;
  letters : l.text ≡ take l.end l.text ++ replicate (length l.text - l.end) 120;
}

abbrev pub decreases-loop-end : goal.decreases-loop-end
decreases-loop-end l = l.end
