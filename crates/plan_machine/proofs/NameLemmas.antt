-- No crontab has the name of an earlier one.
use Rattle.std.proofs.Common.{◌≡◌, ℕ, Bool, true, false, not, ◌&&◌, cond, List, [], ◌∷◌, ◌++◌, codes, Option, None, Some, refl, sym, ◌∙◌}
use Rattle.std.proofs.lemmas.Bool.{or_parts, or_from}
use Rattle.std.proofs.lemmas.List.Folds.{list_any-append}
use Rattle.std.proofs.lemmas.Slice.Eq.{bytes_eq-Decides}
use Rattle.std.specs.Str.{bytes_eq}
use Rattle.plan_parts.specs.declared.parts.Parts.TheVariants.{One}
use Rattle.plan_parts.specs.Files.{FileBytes}
use Rattle.plan_rules.specs.declared.source_kind.SourceKind.{SourceKind}
use Rattle.plan_rules.specs.declared.source_kind.SourceKind.TheVariants.{System, CronD, Spool}
use Rattle.plan_machine.specs.Source.{is_bad_name}
use Rattle.plan_tree.specs.declared.links.End.{End}
use Rattle.plan_tree.specs.declared.links.End.TheVariants.{Unknown, Nothing, Found}
use Rattle.plan_tree.specs.Place.{child}
use Rattle.plan_tree.specs.Tree.{Held}
use Rattle.plan_timers.specs.declared.reports.Why.TheVariants.{BadName, Escape, NameTaken, NotUtf8}
use Rattle.plan_machine.specs.Collection.{IsEachNameOnce, Sources, is_taken, no_sources, with_file, with_skipped, with_source}
use Rattle.plan_machine.specs.Cron.{crontabs_of, system_path, with_cron_d, with_package, with_packages, with_system, with_system_at}
use Rattle.plan_machine.specs.Directories.{is_directory_at, is_missing, listing_in, look, names_at, with_directory, with_listing}
use Rattle.plan_machine.specs.Files.{file_at, lead_of}
use Rattle.plan_machine.specs.Source.{SourceParts, taken_name}
use Rattle.plan_machine.specs.declared.spool.SpoolDir.{SpoolDir}
use Rattle.plan_machine.specs.Spool.{cron_path, is_cut_name, is_graphic_name, spool_name, spool_of, spool_parent, user_name, with_spool_in, with_user, with_users}

other_bytes : (one other : List ℕ) → bytes_eq one other ≡ false → bytes_eq other one ≡ false
other_bytes one other differ =
    by_test (bytes_eq other one) refl
  where
    by_test : (b : Bool) → bytes_eq other one ≡ b → b ≡ false
    by_test false is = refl
    by_test true is =
        let same : other ≡ one = (bytes_eq-Decides other one).0 is in
        let equal : bytes_eq one other ≡ true = (bytes_eq-Decides one other).1 (sym same) in
        cc

-- one more source at the end, whose name isn't taken
once_more :
    (sources : List SourceParts) (source : SourceParts) → IsEachNameOnce sources → is_taken sources (taken_name source) ≡ false →
    IsEachNameOnce (sources ++ source ∷ [])
once_more [] source once new = (refl, tt)
once_more (first ∷ more) source once new =
    let parts = or_parts (bytes_eq (taken_name first) (taken_name source)) (is_taken more (taken_name source)) new in (
      list_any-append (λ other. bytes_eq (taken_name other) (taken_name first)) more (source ∷ [])
          ∙ or_from (is_taken more (taken_name first)) (is_taken (source ∷ []) (taken_name first)) once.0
          (or_from (bytes_eq (taken_name source) (taken_name first)) false
          (other_bytes (taken_name first) (taken_name source) parts.0) refl),
      once_more more source once.1 parts.1,
    )

-- ---- one of two

once_either :
    (b : Bool) (one other : Sources) → IsEachNameOnce one.found → IsEachNameOnce other.found →
    IsEachNameOnce (cond b one other).found
once_either true one other once _ = once
once_either false one other _ once = once

once_unless_taken :
    (all : Sources) (path : List ℕ) (source : SourceParts) (b : Bool) → is_taken all.found (taken_name source) ≡ b →
    IsEachNameOnce all.found → IsEachNameOnce (cond b (with_skipped all path NameTaken) (with_source all source)).found
once_unless_taken all path source true is once = once
once_unless_taken all path source false is once = once_more all.found source once is

-- ---- a crontab

once_with_file :
    (all : Sources) (kind : SourceKind) (path name : List ℕ) (file : Option FileBytes) → IsEachNameOnce all.found →
    IsEachNameOnce (with_file all kind path name file).found
once_with_file all kind path name None once = once
once_with_file all kind path name (Some file) once =
    let source : SourceParts = record { kind = kind; name = name; parts = One file } in
    once_unless_taken all path source (is_taken all.found (taken_name source)) refl once

-- ---- a directory

once_with_listing :
    (all : Sources) (path : List ℕ) (listing : Option (List (List ℕ) × Bool)) → IsEachNameOnce all.found →
    IsEachNameOnce (with_listing all path listing).found
once_with_listing all path None once = once
once_with_listing all path (Some listing) once = once_either listing.1 all (with_skipped all path NotUtf8) once once

once_with_directory :
    (held : Held) (all : Sources) (path : List ℕ) (end : End) → IsEachNameOnce all.found →
    IsEachNameOnce (with_directory held all path end).found
once_with_directory held all path (Found dir) once = once_with_listing all path (listing_in held dir) once
once_with_directory held all path Nothing once = once
once_with_directory held all path Unknown once = once

-- ---- the crontabs of a machine

once_with_system_at :
    (held : Held) (most : ℕ) (all : Sources) (end : End) → IsEachNameOnce all.found →
    IsEachNameOnce (with_system_at held most all end).found
once_with_system_at held most all end once =
    let file : Option FileBytes = file_at held most system_path end in
    once_either (is_missing end) all (with_file all System system_path (codes "crontab") file) once
    (once_with_file all System system_path (codes "crontab") file once)

once_with_package :
    (held : Held) (most : ℕ) (dir : List ℕ) (all : Sources) (name : List ℕ) → IsEachNameOnce all.found →
    IsEachNameOnce (with_package held most dir all name).found
once_with_package held most dir all name once =
    let path : List ℕ = child dir name in
    let file : Option FileBytes = file_at held most path (lead_of held.node path) in
    once_either (is_bad_name CronD name) (with_skipped all path BadName) (with_file all CronD path name file) once
    (once_with_file all CronD path name file once)

once_with_packages :
    (held : Held) (most : ℕ) (dir : List ℕ) (all : Sources) (names : List (List ℕ)) → IsEachNameOnce all.found →
    IsEachNameOnce (with_packages held most dir all names).found
once_with_packages held most dir all [] once = once
once_with_packages held most dir all (name ∷ more) once =
    once_with_packages held most dir (with_package held most dir all name) more (once_with_package held most dir all name once)

once_with_user :
    (held : Held) (most : ℕ) (dir : List ℕ) (names : List (List ℕ)) (all : Sources) (name : List ℕ) → IsEachNameOnce all.found →
    IsEachNameOnce (with_user held most dir names all name).found
once_with_user held most dir names all name once =
    let path : List ℕ = child dir name in
    let end : End = lead_of held.node path in
    let file : Option FileBytes = file_at held most path end in
    let given : List ℕ = user_name all.found names name in
    let named : Sources = with_file all Spool path given file in
    let shown : Sources = cond (not (is_graphic_name name)) (with_skipped all path Escape) named in
    once_either (bytes_eq dir cron_path && is_directory_at held.node end) all
    (cond (is_cut_name name) (with_skipped all path BadName) shown) once
    (once_either (is_cut_name name) (with_skipped all path BadName) shown once
    (once_either (not (is_graphic_name name)) (with_skipped all path Escape) named once
    (once_with_file all Spool path given file once)))

once_with_users :
    (held : Held) (most : ℕ) (dir : List ℕ) (names : List (List ℕ)) (all : Sources) (rest : List (List ℕ)) → IsEachNameOnce all.found →
    IsEachNameOnce (with_users held most dir names all rest).found
once_with_users held most dir names all [] once = once
once_with_users held most dir names all (name ∷ more) once =
    once_with_users held most dir names (with_user held most dir names all name) more (once_with_user held most dir names all name once)

once_with_spool_in :
    (held : Held) (most : ℕ) (all : Sources) (dir name : List ℕ) → IsEachNameOnce all.found →
    IsEachNameOnce (with_spool_in held most all dir name).found
once_with_spool_in held most all dir name once =
    let path : List ℕ = child dir name in
    let end : End = look held.node dir name in
    once_with_users held most path (names_at held end) (with_directory held all path end) (names_at held end)
    (once_with_directory held all path end once)

pub each_name_once : (held : Held) (most : ℕ) → IsEachNameOnce (crontabs_of held most).found
each_name_once held most =
    let first : Sources = with_system held most no_sources in
    let system = once_with_system_at held most no_sources (look held.node (codes "etc") (codes "crontab")) tt in
    let path : List ℕ = codes "etc/cron.d" in
    let end : End = look held.node (codes "etc") (codes "cron.d") in
    let packages = once_with_packages held most path (with_directory held first path end) (names_at held end)
    (once_with_directory held first path end system) in
    let spool : SpoolDir = spool_of held.node in
    once_with_spool_in held most (with_cron_d held most first) (spool_parent spool) (spool_name spool) packages
