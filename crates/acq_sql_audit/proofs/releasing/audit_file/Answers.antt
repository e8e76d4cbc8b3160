use Rattle.std.proofs.Common.{◌≡◌, ◌∙◌, ap, arith, false, not, refl, subst, sym}
use Rattle.sqlite_catalog.specs.Listing.{IsSound}
use Rattle.sqlite.specs.Effect.{Database}
use Rattle.sqlite.specs.Held.{state}
use Rattle.sqlite.specs.State.{HasCleanDisk}
use Rattle.acq_sql_audit.specs.Audited.{Audits, made_by}
use Rattle.acq_sql_audit.specs.Compared.{AreInOrder}
use Rattle.acq_sql_audit.proofs.OrderedStores.{if_found, open_unless, stores_in_order}
use Rattle.acq_sql_audit.proofs.releasing.audit_file.Goals as goal

pub returns-clause-audits : goal.returns-clause-audits
returns-clause-audits g c clean =
    let file = state g.S.Store c.args.file in
    let t = made_by c.args.limit c.args.first_day c.args.events.now in
    let end = g.S.Store.view c.into_store-store.result in
    if_found (Audits file.now t) c.is_broken-has_failed.result c.audit-found.result
    c.unless.result c.unless.ensures.failed c.unless.ensures.found
    (λ sound d is.
    let unbroken : end.is_broken ≡ false = sym (c.is_broken-has_failed.ensures clean) ∙ sound in
    let opened = open_unless end.is_open end.is_broken
    (g.met.S.Store.broken_if_shut c.into_store-store.result) unbroken in
    let late : HasCleanDisk (state g.S.Store c.audit-found.new.file) =
    omega (arith, c.into_store-store.ensures.quiet.clean, clean) in
    let looks = rw is at c.audit-found.ensures.looks in
    let same = looks.same late refl in
    let autocommit = c.is_autocommit.ensures.value ∙ ap not c.requires.settled in
    let settled = c.is_autocommit.ensures.settled autocommit same.0.was_open in
    let trees = (c.into_store-store.ensures.undone.undone opened).0
    ∙ ap (λ (d : Database). d.trees) (same.0.committed_is ∙ sym settled) in
    let live = (c.schema.ensures.live same.0.was_open).0 in
    let ordered = stores_in_order end
    (g.met.S.Store.ordered c.into_store-store.result unbroken) file.now.schema
    (rw is at c.audit-found.ensures.book)
    (subst (λ l. IsSound file.now.schema l) (sym trees) live)
    (g.met.S.Alter.listed c.into_store-store.result unbroken) in
    rw is at (c.audit-found.ensures.audits late (subst AreInOrder trees ordered)))
