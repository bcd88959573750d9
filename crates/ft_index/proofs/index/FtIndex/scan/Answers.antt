use Rattle.std.proofs.Common.{IsSome, refl, subst}
use Rattle.std.specs.List.{Contains}
use Rattle.ft_index.specs.Index.{Index}
use Rattle.ft_index.specs.Snapshots.{IsSnapshot, list_at, names_of}
use Rattle.ft_index.specs.contracts.index.FtIndex.{the_view}
use Rattle.ft_index.proofs.PictureLaws.{pictures-every, pictures-own, pictures-rise}
use Rattle.ft_index.proofs.index.FtIndex.scan.Goals as goal

pub returns-clause-scanned : goal.returns-clause-scanned
returns-clause-scanned c =
    let lists = (the_view c.self.inside).lists in
    subst (λ (i : Index). IsSnapshot i c.args.number (record {
      serial = c.self.inside.def.serial;
      number = c.args.number;
      live = c.in_ok-live.live;
      lists = c.in_ok-lists.lists;
    })) c.self.view_is (record {
      serial = refl;
      number = refl;
      live = c.in_ok-live.ensures;
      pictures = pictures-own lists c.in_ok-lists.lists c.in_ok-lists.ensures.named c.in_ok-lists.ensures.ordered;
      rise = pictures-rise lists c.in_ok-lists.lists c.in_ok-lists.ensures.named c.in_ok-lists.ensures.ordered;
    })

pub returns-clause-every : goal.returns-clause-every
returns-clause-every c name there =
    let lists = (the_view c.self.inside).lists in
    subst (λ (i : Index). IsSome (list_at i.lists name) → Contains (names_of c.in_ok-lists.lists) name) c.self.view_is
    (pictures-every lists c.in_ok-lists.lists c.in_ok-lists.ensures.named name) there
