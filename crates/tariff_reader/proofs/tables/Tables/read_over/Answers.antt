use Rattle.std.proofs.Common.{◌≡◌, length, refl, rules}
use Rattle.std.proofs.lemmas.Result.{err_from_is_err_and}
use Rattle.tariff.proofs.Decoding.{bytes_fit}
use Rattle.tariff_format.specs.Files.{file_at}
use Rattle.tariff_reader.proofs.Loading.{right_here, loaded, counted, faulty, kept}
use Rattle.tariff_reader.proofs.tables.Tables.read_over.Goals as goal

pub returns-in_err-self-inside-clause-fault : goal.returns-in_err-self-inside-clause-fault
returns-in_err-self-inside-clause-fault c =
    let p = err_from_is_err_and c.from_residual.result c.from_residual.ensures.1 in
    let m = length c.self.inside.fares in
    let n = length c.self.inside.terms in
    let m_is : m ≡ 1024 = search rules in
    let n_is : n ≡ 512 = search rules in
    let right = right_here m n c.args.file.now m_is n_is (bytes_fit c.args.file.now c.type_inv.file) in
    rw (p.1, p.2) (faulty 1024 512 c.args.file.now _ (file_at m n c.args.file.now) right c.in_err-self-inside.ensures.value)

pub returns-in_err-self-inside-clause-err : goal.returns-in_err-self-inside-clause-err
returns-in_err-self-inside-clause-err c =
    let p = err_from_is_err_and c.from_residual.result c.from_residual.ensures.1 in
    let old = c.self.inside in
    let m = length old.fares in
    let n = length old.terms in
    let m_is : m ≡ 1024 = search rules in
    let n_is : n ≡ 512 = search rules in
    let is = c.in_err-self-inside.ensures.value in
    rw p.1 (kept m n c.args.file.now m_is n_is old.counts old.fares c.load.new.fares old.terms c.load.new.terms c.args.self.now refl refl c.self.view_is c.self.invariant c.requires _ is)

pub invariant_of-self-2 : goal.invariant_of-self-2
invariant_of-self-2 c =
    let m = length c.self.inside.fares in
    let n = length c.self.inside.terms in
    let m_is : m ≡ 1024 = search rules in
    let n_is : n ≡ 512 = search rules in
    let right = right_here m n c.args.file.now m_is n_is (bytes_fit c.args.file.now c.type_inv.file) in
    counted 1024 512 c.args.file.now _ (file_at m n c.args.file.now) right c.in_ok-self-inside.ensures.value

pub returns-clause-ok : goal.returns-clause-ok
returns-clause-ok c =
    let m = length c.self.inside.fares in
    let n = length c.self.inside.terms in
    let m_is : m ≡ 1024 = search rules in
    let n_is : n ≡ 512 = search rules in
    let read = c.in_ok-self-inside.ensures in
    let right = right_here m n c.args.file.now m_is n_is (bytes_fit c.args.file.now c.type_inv.file) in
    loaded 1024 512 c.args.file.now _ c.self.inside.fares c.load.new.fares c.self.inside.terms c.load.new.terms (file_at m n c.args.file.now) right read.value read.fares read.terms
