-- The sorted entries are the agenda.
use Rattle.std.proofs.Common.{◌≡◌, List, Ok, ap, length, sym, subst, ◌∙◌}
use Rattle.plan_collect.specs.Agenda.{Planned, IsInYears, IsOfJobs}
use Rattle.plan_collect.specs.Collecting.{Collected}
use Rattle.plan_collect.specs.AgendaLaws.{agenda-in_years, agenda-of_timings}
use Rattle.plan_collect.specs.Windows.{Timing, agenda_of_windows, planned_windows}
use Rattle.plan_next.specs.Span.{Bounds}
use Rattle.plan_collect.specs.contracts.collector.Collector.{the_view}
use Rattle.plan_collect.proofs.HoldsLemmas.{agenda_sorted}
use Rattle.plan_collect.proofs.collector.Collector.finish.Goals as goal

-- agendas are equal if their spans and their entries are
same_planned :
    (made : Planned) (timings : List Timing) (span : Bounds) → made.span ≡ span → made.entries ≡ agenda_of_windows timings span →
    made ≡ planned_windows timings span
same_planned made timings span spans entries = λ i. record { span = spans i; entries = entries i }

pub new-requires : goal.new-requires
new-requires c =
    let is = agenda_sorted (the_view c.self.inside) c.args.self c.self.inside.entries.items c.sort_starts.new.starts.items
    c.is_complete.result c.self.view_is c.self.invariant c.is_complete.ensures c.if-not-is_complete.false
    c.sort_starts.ensures.permutation c.sort_starts.ensures.sorted in
    subst IsInYears (sym is) (agenda-in_years c.args.self.timings c.args.self.span)

pub returns-clause-agenda : goal.returns-clause-agenda
returns-clause-agenda c =
    let is = agenda_sorted (the_view c.self.inside) c.args.self c.self.inside.entries.items c.sort_starts.new.starts.items
    c.is_complete.result c.self.view_is c.self.invariant c.is_complete.ensures c.if-not-is_complete.false
    c.sort_starts.ensures.permutation c.sort_starts.ensures.sorted in
    let complete = sym c.is_complete.ensures ∙ c.if-not-is_complete.false in
    rw complete (ap Ok (c.new.ensures ∙ same_planned _ c.args.self.timings c.args.self.span
    (ap (λ (s : Collected). s.span) c.self.view_is) is))

pub returns-clause-jobs : goal.returns-clause-jobs
returns-clause-jobs c =
    let is = agenda_sorted (the_view c.self.inside) c.args.self c.self.inside.entries.items c.sort_starts.new.starts.items
    c.is_complete.result c.self.view_is c.self.invariant c.is_complete.ensures c.if-not-is_complete.false
    c.sort_starts.ensures.permutation c.sort_starts.ensures.sorted in
    subst (λ (made : Planned). IsOfJobs (length c.args.self.timings) made.entries)
    (sym (c.new.ensures ∙ same_planned _ c.args.self.timings c.args.self.span (ap (λ (s : Collected). s.span) c.self.view_is) is))
    (agenda-of_timings c.args.self.timings c.args.self.span)
