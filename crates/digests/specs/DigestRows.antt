-- Worked rows: the digests of NIST's examples that accompany FIPS 180-4 (Examples with Intermediate Values), and of the
-- empty message, as sha1sum to sha512sum and `openssl dgst` print them.
use Rattle.std.specs.Prelude.{◌≡◌, ◌++◌, List, ℕ, [], codes}
use Rattle.der_core.specs.Hex.{hex}
use Rattle.digests.specs.declared.algorithm.Alg.TheVariants.{Sha1, Sha224, Sha256, Sha384, Sha512, Sha512_224}
use Rattle.digests.specs.declared.algorithm.Alg.TheVariants.{Sha512_256}
use Rattle.digests.specs.Messages.{digest_of}

-- messages that fill two blocks with their padding
abbrev pub of_448_bits : List ℕ
of_448_bits = codes "abcdbcdecdefdefgefghfghighijhijkijkljklmklmnlmnomnopnopq"

abbrev pub of_896_bits : List ℕ
of_896_bits = codes
    "abcdefghbcdefghicdefghijdefghijkefghijklfghijklmghijklmnhijklmnoijklmnopjklmnopqklmnopqrlmnopqrsmnopqrstnopqrstu"

-- the empty message
pub record NoOctetRows : Type 0 where
  pub sha1 : digest_of Sha1 [] ≡ hex "da39a3ee5e6b4b0d3255bfef95601890afd80709"
  pub sha224 : digest_of Sha224 [] ≡ hex "d14a028c2a3a2bc9476102bb288234c415a2b01f828ea62ac5b3e42f"
  pub sha256 : digest_of Sha256 [] ≡ hex "e3b0c44298fc1c149afbf4c8996fb92427ae41e4649b934ca495991b7852b855"
  pub sha384 : digest_of Sha384 []
      ≡ hex "38b060a751ac96384cd9327eb1b1e36a21fdb71114be07434c0cc7bf63f6e1da274edebfe76f65fbd51ad2f14898b95b"
  pub sha512 : digest_of Sha512 []
      ≡ hex "cf83e1357eefb8bdf1542850d66d8007d620e4050b5715dc83f4a921d36ce9ce"
      ++ hex "47d0d13c5d85f2b0ff8318d2877eec2f63b931bd47417a81a538327af927da3e"
  pub sha512_224 : digest_of Sha512_224 [] ≡ hex "6ed0dd02806fa89e25de060c19d3ac86cabb87d6a0ddd05c333b84f4"
  pub sha512_256 : digest_of Sha512_256 [] ≡ hex "c672b8d1ef56ed28ab87c3622c5114069bdd3ad7b8f9737498d0c01ecef0967a"

-- the message abc, one block
pub record AbcRows : Type 0 where
  pub sha1 : digest_of Sha1 (codes "abc") ≡ hex "a9993e364706816aba3e25717850c26c9cd0d89d"
  pub sha224 : digest_of Sha224 (codes "abc") ≡ hex "23097d223405d8228642a477bda255b32aadbce4bda0b3f7e36c9da7"
  pub sha256 : digest_of Sha256 (codes "abc") ≡ hex "ba7816bf8f01cfea414140de5dae2223b00361a396177a9cb410ff61f20015ad"
  pub sha384 : digest_of Sha384 (codes "abc")
      ≡ hex "cb00753f45a35e8bb5a03d699ac65007272c32ab0eded1631a8b605a43ff5bed8086072ba1e7cc2358baeca134c825a7"
  pub sha512 : digest_of Sha512 (codes "abc")
      ≡ hex "ddaf35a193617abacc417349ae20413112e6fa4e89a97ea20a9eeee64b55d39a"
      ++ hex "2192992a274fc1a836ba3c23a3feebbd454d4423643ce80e2a9ac94fa54ca49f"
  pub sha512_224 : digest_of Sha512_224 (codes "abc") ≡ hex "4634270f707b6a54daae7530460842e20e37ed265ceee9a43e8924aa"
  pub sha512_256 : digest_of Sha512_256 (codes "abc")
      ≡ hex "53048e2681941ef99b2e29b76b4c7dabe4c2d0c634fc6d46e0e2f13107e7af23"

-- messages of two blocks
pub record TwoBlockRows : Type 0 where
  pub sha1 : digest_of Sha1 of_448_bits ≡ hex "84983e441c3bd26ebaae4aa1f95129e5e54670f1"
  pub sha224 : digest_of Sha224 of_448_bits ≡ hex "75388b16512776cc5dba5da1fd890150b0c6455cb4f58b1952522525"
  pub sha256 : digest_of Sha256 of_448_bits ≡ hex "248d6a61d20638b8e5c026930c3e6039a33ce45964ff2167f6ecedd419db06c1"
  pub sha384 : digest_of Sha384 of_896_bits
      ≡ hex "09330c33f71147e83d192fc782cd1b4753111b173b3b05d22fa08086e3b0f712fcc7c71a557e2db966c3e9fa91746039"
  pub sha512 : digest_of Sha512 of_896_bits
      ≡ hex "8e959b75dae313da8cf4f72814fc143f8f7779c6eb9f7fa17299aeadb6889018"
      ++ hex "501d289e4900f7e4331b99dec4b5433ac7d329eeb6dd26545e96e55b874be909"
  pub sha512_224 : digest_of Sha512_224 of_896_bits ≡ hex "23fec5bb94d60b23308192640b0c453335d664734fe40e7268674af9"
  pub sha512_256 : digest_of Sha512_256 of_896_bits
      ≡ hex "3928e184fb8690f840da3988121d31be65cb9d3ef83ee6146feac861e19b563a"
