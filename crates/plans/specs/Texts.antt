-- The texts of a plan's heading and of its sum.
use Rattle.std.specs.Prelude.{ℕ, List, ◌++◌, codes, decimal}
use Rattle.plans.specs.declared.plan.heading.Heading.{Heading}
use Rattle.plans.specs.declared.plan.sum.Sum.{Sum}

-- `switches S, edge ports E, links L, rules R, tag OLD to tag NEW`
abbrev pub heading_text : Heading → List ℕ
heading_text h =
    codes "switches " ++ (decimal h.switches ++ (codes ", edge ports " ++ (decimal h.edge_ports ++ (codes ", links " ++ (decimal h.links ++ (
    codes ", rules " ++ (decimal h.rules ++ (codes ", tag " ++ (decimal h.old_tag ++ (codes " to tag " ++ decimal h.new_tag))))))))))

-- `sum T: R for rules, E for edge ports, F for switches`
abbrev pub sum_text : Sum → List ℕ
sum_text s =
    codes "sum " ++ (decimal s.total ++ (codes ": " ++ (decimal s.rules ++ (codes " for rules, " ++ (decimal s.edge_ports ++ (
    codes " for edge ports, " ++ (decimal s.switch_messages ++ codes " for switches")))))))
